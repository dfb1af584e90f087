-- A line means one thing: its first letter tells what it asks for, its words are read as one row of numbers, and where
-- it is refused, what it asks for and where it stands tell why.
use mathlib.Core.Path.{◌≡◌, refl, sym, ap, ap₂, ◌∙◌, subst}
use mathlib.Core.Bool.{Bool, true, false}
use mathlib.Core.List.{List, [], ◌∷◌, ◌++◌}
use mathlib.Core.Logic.{⊎_elim}
use Prim.Native.Nat.{ℕ, ◌+◌, ◌*◌, ◌<◌, ◌≤◌}
use native.Mathlib.Nat.{eq-or-lt_of_le}
use native.Mathlib.Omega.{arith}
use borrow.Author.Tests.{lt-ltb, le-ltb, eq-eqb, ne_eqb, eqb-true, eqb-false}
use lib.Dec.{eqb, ltb}
use lib.ListN.{length, get_or, length-append}
use Rattle.whole.specs.Choice.{when◌then◌else◌}
use Rattle.text.specs.Pages.{Put, big_endian}
use Rattle.text.proofs.Puts.{put_unique}
use Rattle.decimal.specs.Decimals.{Reads}
use Rattle.decimal.proofs.Unique.{reads_unique}
use Rattle.pen_line.specs.Lines.{start_of, end_of, word, Numerals, none, one_more, NoNumerals, no_number, too_many}
use Rattle.pen_line.specs.Lines.{Asks, strip, move, line, close, Record}
use Rattle.pen_line.specs.Records.{Ordered, LineAdds, blank, its_record, LineTaken, taken, refused}
use Rattle.pen_line.specs.Records.{LineRefused, unknown, second_strip, no_strip, long_drawing, not_numbers}
use Rattle.pen_line.specs.Laws.{OneStep}
use Rattle.pen_line.specs.declared.Fault.{Fault}
use Rattle.pen_line.specs.declared.Fault.TheVariants.{NoStrip, SecondStrip, UnknownWord, NotNumbers}
use Rattle.pen_line.specs.declared.Fault.TheVariants.{LongDrawing}
use Rattle.std.specs.Prelude.{Result, Ok, Err, Some, None}

-- ---- what a word asks for, by its first letter

abbrev first_byte : ℕ → ℕ
first_byte s = when eqb s 115 then 1 else when eqb s 109 then 77 else when eqb s 108 then 76 else 90

abbrev how_many : ℕ → ℕ
how_many s = when eqb s 115 then 4 else when eqb s 99 then 0 else 2

by_letter : {w : List ℕ} {b n : ℕ} → Asks w b n → (b ≡ first_byte (get_or w 0 0)) × (n ≡ how_many (get_or w 0 0))
by_letter strip = (refl, refl)
by_letter move = (refl, refl)
by_letter line = (refl, refl)
by_letter close = (refl, refl)

asks_unique : {w : List ℕ} {b c n m : ℕ} → Asks w b n → Asks w c m → (b ≡ c) × (n ≡ m)
asks_unique p q = ((by_letter p).0 ∙ sym (by_letter q).0, (by_letter p).1 ∙ sym (by_letter q).1)

not_blank : {w : List ℕ} {b n : ℕ} → Asks w b n → w ≡ [] → ⊥
not_blank strip e = omega (arith, ap length e)
not_blank move e = omega (arith, ap length e)
not_blank line e = omega (arith, ap length e)
not_blank close e = omega (arith, ap length e)

-- ---- numbers

pub number_or_not : {t : List ℕ} {bits : ℕ} → Reads t (Some bits) → Reads t None → ⊥
number_or_not {bits = bits} r s =
    let e : Some bits ≡ None = reads_unique r s in
    let z : ◌≡◌ {A = ℕ} 0 1 = cc in
    omega arith

module _ {l : List ℕ} {i : ℕ} where
  numerals_unique : {n m k j : ℕ} {bs cs : List ℕ} → n ≡ m → Numerals l i n k bs → Numerals l i m j cs
      → (k ≡ j) × (bs ≡ cs)
  numerals_unique e none none = (refl, refl)
  numerals_unique e none (one_more q s) = absurd (omega arith)
  numerals_unique e (one_more p r) none = absurd (omega arith)
  numerals_unique e (one_more {bits = a} p r) (one_more {bits = b} q s) =
      let same = numerals_unique (omega arith) p q in
      let here = subst (λ (x : ℕ). Reads (word l x) (Some a)) same.0 r in
      let read : Some a ≡ Some b = reads_unique here s in
      let bits : a ≡ b = cc in
      (ap (end_of l) same.0, ap₂ (λ x y. x ++ big_endian y) same.1 bits)

  numerals_long : {n k : ℕ} {bs : List ℕ} → Numerals l i n k bs → length bs ≡ n * 4
  numerals_long none = omega arith
  numerals_long (one_more {bits = a} {bs = bs} p r) = omega (arith, numerals_long p, length-append bs (big_endian a))

  -- none of the first n words is no number
  all_numbers : {n m k j : ℕ} {bs cs : List ℕ} → Numerals l i n k bs → m < n → Numerals l i m j cs
      → Reads (word l j) None → ⊥
  all_numbers none h q s = omega arith
  all_numbers {m = m} (one_more {n = n} p r) h q s =
      let before : m ≤ n = omega arith in
      ⊎_elim
      (λ e. number_or_not r (subst (λ (x : ℕ). Reads (word l x) None) (numerals_unique e q p).0 s))
      (λ h. all_numbers p h q s)
      (eq-or-lt_of_le before)

  numerals_or_not : {n k : ℕ} {bs : List ℕ} → Numerals l i n k bs → start_of l k ≡ length l → NoNumerals l i n → ⊥
  numerals_or_not p o (no_number h q s) = all_numbers p h q s
  numerals_or_not p o (too_many q f) = f (ap (start_of l) (numerals_unique refl q p).0 ∙ o)

-- ---- lines

record_unique : {l : List ℕ} {b c : ℕ} {bs cs : List ℕ} → Record l b bs → Record l c cs → (b ≡ c) × (bs ≡ cs)
record_unique r s =
    let e = asks_unique r.asks s.asks in
    (e.0, (numerals_unique e.1 r.numerals s.numerals).1)

-- why a line is refused that asks for the first byte b and k numbers
abbrev placed : ℕ → ℕ → Fault → Fault
placed b n f = when eqb n 0 then (when eqb b 1 then f else NoStrip) else when eqb b 1 then SecondStrip else f

abbrev why : ℕ → ℕ → ℕ → ℕ → Fault
why n room b k = placed b n (when ltb room (n + 1 + k * 4) then LongDrawing else NotNumbers k)

well_placed : {b n : ℕ} → Ordered b n → (f : Fault) → placed b n f ≡ f
well_placed {b} {n} o f = go (eqb n 0) refl
  where
    go : (t : Bool) → eqb n 0 ≡ t → placed b n f ≡ f
    go true e = rw (e, eq-eqb b 1 (o.1 (eqb-true n 0 e)))
    go false e = rw (e, ne_eqb b 1 (λ z. eqb-false n 0 e (o.0 z)))

data Reason (l : List ℕ) (n room : ℕ) (f : Fault) : Type 0 where
  unasked : ((b k : ℕ) → Asks (word l 0) b k → ⊥) → f ≡ UnknownWord → Reason l n room f
  asked : {b k : ℕ} → Asks (word l 0) b k → f ≡ why n room b k → Reason l n room f

module _ {l : List ℕ} {n room : ℕ} where
  pub adds_unique : {bs cs : List ℕ} → LineAdds l n room bs → LineAdds l n room cs → bs ≡ cs
  adds_unique (blank z) (blank y) = refl
  adds_unique (blank z) (its_record s o h) = absurd (not_blank s.asks z)
  adds_unique (its_record r o h) (blank y) = absurd (not_blank r.asks y)
  adds_unique (its_record r o h) (its_record s q g) = let e = record_unique r s in ap₂ (λ x y. x ∷ y) e.0 e.1

  pub adds_or_not : {bs : List ℕ} {f : Fault} → LineAdds l n room bs → LineRefused l n room f → ⊥
  adds_or_not (blank z) (unknown y f) = y z
  adds_or_not (blank z) (second_strip a y) = not_blank a z
  adds_or_not (blank z) (no_strip a y e) = not_blank a z
  adds_or_not (blank z) (long_drawing a o h) = not_blank a z
  adds_or_not (blank z) (not_numbers a o h x) = not_blank a z
  adds_or_not (its_record r o h) (unknown y f) = f _ _ r.asks
  adds_or_not (its_record r o h) (second_strip a y) = y (o.0 (asks_unique r.asks a).0)
  adds_or_not (its_record r o h) (no_strip a y e) = y (sym (asks_unique r.asks a).0 ∙ o.1 e)
  adds_or_not (its_record r o h) (long_drawing a q g) =
      omega (arith, (asks_unique r.asks a).1, numerals_long r.numerals)
  adds_or_not (its_record r o h) (not_numbers a q g x) =
      numerals_or_not r.numerals r.over (subst (NoNumerals l (end_of l 0)) (sym (asks_unique r.asks a).1) x)

  reason : {f : Fault} → LineRefused l n room f → Reason l n room f
  reason (unknown z f) = unasked f refl
  reason (second_strip a z) = asked a (rw (ne_eqb n 0 z))
  reason (no_strip {b = b} a z e) = asked a (rw (eq-eqb n 0 e, ne_eqb b 1 z))
  reason (long_drawing {k = k} a o h) = asked a (sym (well_placed o _ ∙ rw (lt-ltb room (n + 1 + k * 4) h)))
  reason (not_numbers {k = k} a o h x) = asked a (sym (well_placed o _ ∙ rw (le-ltb room (n + 1 + k * 4) h)))

  one_reason : {f g : Fault} → Reason l n room f → Reason l n room g → f ≡ g
  one_reason (unasked f p) (unasked g q) = p ∙ sym q
  one_reason (unasked f p) (asked a q) = absurd (f _ _ a)
  one_reason (asked a p) (unasked f q) = absurd (f _ _ a)
  one_reason (asked a p) (asked c q) = let e = asks_unique a c in p ∙ ap₂ (why n room) e.0 e.1 ∙ sym q

  pub refused_unique : {f g : Fault} → LineRefused l n room f → LineRefused l n room g → f ≡ g
  refused_unique p q = one_reason (reason p) (reason q)

-- ---- steps

pub one_step : OneStep
one_step l before after after' at r s p q = go p q
  where
    go : {r s : Result ℕ Fault} → LineTaken l before after at r → LineTaken l before after' at s
        → (r ≡ s) × ((end : ℕ) → r ≡ Ok end → after ≡ after')
    go (taken {end = end} a p) (taken b q) =
        let same = put_unique (subst (Put before after at end) (adds_unique a b) p) q in
        (ap Ok same.0, λ k d. same.1)
    go (taken a p) (refused r) = absurd (adds_or_not a r)
    go (refused r) (taken a p) = absurd (adds_or_not a r)
    go (refused r) (refused s) =
        (ap Err (refused_unique r s), λ k d. absurd (let z : ◌≡◌ {A = ℕ} 0 1 = cc in omega arith))
