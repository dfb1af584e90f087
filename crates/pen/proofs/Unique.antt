-- A text becomes one thing: of two lines where it may end, the earlier is not taken, so that the later is not reached;
-- and at one line it ends in one way.
use Rattle.std.specs.Prelude.{Result, Ok, Err}
use mathlib.Core.Path.{◌≡◌, refl, sym, ap, ap₂, ◌∙◌, subst, subst₂}
use mathlib.Core.List.{List, ◌++◌}
use mathlib.Core.Logic.{⊎_elim}
use Prim.Native.Nat.{ℕ, ◌+◌, ◌-◌, ◌<◌, ◌≤◌}
use native.Mathlib.Decide.{dec_lt}
use native.Mathlib.Nat.{eq-or-lt_of_le}
use native.Mathlib.Omega.{arith}
use lib.ListN.{length, take, length-append}
use lib.Seq.{length-take-le}
use Rattle.text.specs.Pages.{big_endian}
use Rattle.pen_line.specs.Records.{drawing_room, LineAdds, LineRefused}
use Rattle.pen_line.specs.declared.Fault.{Fault}
use Rattle.pen_line.proofs.Unique.{adds_unique, adds_or_not, refused_unique}
use Rattle.pen.specs.Texts.{line_end, line_at, LineWithin, Told, start, next}
use Rattle.pen.specs.Texts.{EndsAs, drawn, no_line, wrong_line, long_text}
use Rattle.pen.specs.Laws.{OneOutcome}
use Rattle.pen.proofs.Drawings.{from_one}

-- the line of t at the place i is not taken after the bytes bs
abbrev Stops : List ℕ → ℕ → ℕ → List ℕ → Type 0
Stops t room i bs = (added : List ℕ) → LineWithin t i → LineAdds (line_at t i) (length bs) room added → ⊥

module _ {t : List ℕ} {room : ℕ} where
  told_unique : {n m i j : ℕ} {bs cs : List ℕ} → n ≡ m → Told t room n i bs → Told t room m j cs → (i ≡ j) × (bs ≡ cs)
  told_unique e start start = (refl, refl)
  told_unique e start (next q v b) = absurd (omega (arith, from_one q))
  told_unique e (next p w a) start = absurd (omega (arith, from_one p))
  told_unique e (next {added = added} p w a) (next q v b) =
      let s = told_unique (omega arith) p q in
      let here = subst₂ (λ x y. LineAdds (line_at t x) (length y) room added) s.0 s.1 a in
      (ap (λ (x : ℕ). line_end t x + 1) s.0, ap₂ ◌++◌ s.1 (adds_unique here b))

  not_passed : {n m i j : ℕ} {bs cs : List ℕ} → n < m → Told t room n i bs → Stops t room i bs → Told t room m j cs → ⊥
  not_passed h p s start = omega (arith, from_one p)
  not_passed {n = n} h p s (next {n = m} q v b) =
      let before : n ≤ m = omega arith in
      ⊎_elim
      (λ e. let u = told_unique e p q in subst₂ (Stops t room) u.0 u.1 s _ v b)
      (λ h. not_passed h p s q)
      (eq-or-lt_of_le before)

  one_line : {n m i j : ℕ} {bs cs : List ℕ} → Told t room n i bs → Stops t room i bs → Told t room m j cs
      → Stops t room j cs → n ≡ m
  one_line {n} {m} p s q u = go (dec_lt n m) (dec_lt m n)
    where
      go : Dec (n < m) → Dec (m < n) → n ≡ m
      go (yes h) d = absurd (not_passed h p s q)
      go (no f) (yes h) = absurd (not_passed h q u p)
      go (no f) (no g) = omega arith

module _ {t page : List ℕ} {i : ℕ} {bs : List ℕ} where
  stops : {s : Result ℕ Fault} → EndsAs t page i bs s → Stops t (drawing_room page) i bs
  stops (drawn h y l p) added w a = omega arith
  stops (no_line h y) added w a = omega arith
  stops (wrong_line v r) added w a = adds_or_not a r
  stops (long_text h l) added w a = omega arith

  -- a drawing is the count and the bytes, and no more
  its_bytes : {s : Result ℕ Fault} {at : ℕ} → s ≡ Ok at → EndsAs t page i bs s → take at page ≡ big_endian (length bs) ++ bs
  its_bytes {at = at} d (drawn {at = k} h y l p) =
      let same : k ≡ at = cc in
      subst (λ (x : ℕ). take x page ≡ big_endian (length bs) ++ bs) same p
  its_bytes d (no_line h y) = absurd (let z : ◌≡◌ {A = ℕ} 0 1 = cc in omega arith)
  its_bytes d (wrong_line v r) = absurd (let z : ◌≡◌ {A = ℕ} 0 1 = cc in omega arith)
  its_bytes d (long_text h l) = absurd (let z : ◌≡◌ {A = ℕ} 0 1 = cc in omega arith)

long_as : (page bs : List ℕ) (at : ℕ) → at ≤ length page → take at page ≡ big_endian (length bs) ++ bs
    → at ≡ 4 + length bs
long_as page bs at h e = omega (arith, length-take-le at page h, ap length e, length-append (big_endian (length bs)) bs)

one_way : {t page page' : List ℕ} {i : ℕ} {bs : List ℕ} {s u : Result ℕ Fault} → length page ≡ length page'
    → EndsAs t page i bs s → EndsAs t page' i bs u → s ≡ u
one_way {bs = bs} z (drawn h y l p) (drawn g x m q) = ap Ok (long_as _ bs _ l p ∙ sym (long_as _ bs _ m q))
one_way z (drawn h y l p) (no_line g x) = absurd (y x)
one_way z (drawn h y l p) (wrong_line v r) = absurd (omega arith)
one_way z (drawn h y l p) (long_text g m) = absurd (omega arith)
one_way z (no_line h y) (drawn g x m q) = absurd (x y)
one_way z (no_line h y) (no_line g x) = refl
one_way z (no_line h y) (wrong_line v r) = absurd (omega arith)
one_way z (no_line h y) (long_text g m) = absurd (omega arith)
one_way z (wrong_line w r) (drawn g x m q) = absurd (omega arith)
one_way z (wrong_line w r) (no_line g x) = absurd (omega arith)
one_way {t} {i = i} {bs = bs} z (wrong_line {f = f} w r) (wrong_line v q) =
    ap Err (refused_unique (subst (λ (x : ℕ). LineRefused (line_at t i) (length bs) (x - 4) f) z r) q)
one_way z (wrong_line w r) (long_text g m) = absurd (omega arith)
one_way z (long_text h l) (drawn g x m q) = absurd (omega arith)
one_way z (long_text h l) (no_line g x) = absurd (omega arith)
one_way z (long_text h l) (wrong_line v r) = absurd (omega arith)
one_way z (long_text h l) (long_text g m) = refl

pub one_outcome : OneOutcome
one_outcome t page page' a b z p q =
    let told = subst (λ (x : ℕ). Told t (x - 4) b.line q.place q.bytes) (sym z) q.told in
    let stop = subst (λ (x : ℕ). Stops t (x - 4) q.place q.bytes) (sym z) (stops q.ends) in
    let line = one_line p.told (stops p.ends) told stop in
    let here = told_unique line p.told told in
    let ends = subst₂ (λ x y. EndsAs t page' x y b.step) (sym here.0) (sym here.1) q.ends in
    let step = one_way z p.ends ends in (
      ap₂ (λ n s. record { line = n; step = s }) line step,
      λ at d. its_bytes d p.ends ∙ sym (its_bytes (sym step ∙ d) ends),
    )
