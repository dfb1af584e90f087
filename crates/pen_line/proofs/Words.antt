-- What a word asks for, where it stands, and where the words of a line end.
use mathlib.Core.Path.{◌≡◌, refl, sym, ap, ◌∙◌, subst}
use mathlib.Core.List.{List, []}
use Prim.Native.Nat.{ℕ, ◌+◌, ◌-◌, ◌<◌, ◌≤◌}
use native.Mathlib.Omega.{arith}
use borrow.Author.Tests.{lt-ltb, le-ltb, eq-eqb, ne_eqb}
use lib.Dec.{eqb}
use lib.ListN.{length, get_or, take, drop, length-drop}
use lib.Seq.{length-take-le}
use Rattle.whole.proofs.Comparisons.{tt_ff}
use mathlib.Core.Bool.{Bool, true, false}
use Rattle.whole.specs.Choice.{when◌then◌else◌}
use Rattle.text.specs.Pages.{ascii}
use Rattle.text.specs.Runs.{run, is_not}
use Rattle.pen_line.specs.Lines.{start_of, end_of, word, Asks, strip, move, line, close, words_end}
use Rattle.pen_line.specs.Workers.{AskedBy, known, unknown}
use Rattle.pen_line.specs.declared.Asked.{Asked}
use Rattle.std.specs.Prelude.{Option, Some, None, [], ◌∷◌}

-- ---- what it asks for, by comparing

module _ {w v : List ℕ} {t : Bool} (s : (t ≡ true → w ≡ v) × (w ≡ v → t ≡ true)) where
  pub same : {b n : ℕ} → t ≡ true → Asks v b n → AskedBy w (Some (record { first = b; count = n }))
  same {b} {n} e a = known (subst (λ (x : List ℕ). Asks x b n) (sym (s.0 e)) a)

  pub other : t ≡ false → w ≡ v → ⊥
  other e q = tt_ff (sym (s.1 q) ∙ e)

pub asks_none : {w : List ℕ} {b n : ℕ} → (w ≡ ascii "strip" → ⊥) → (w ≡ ascii "move" → ⊥) → (w ≡ ascii "line" → ⊥) → (w ≡ ascii "close" → ⊥) → Asks w b n → ⊥
asks_none s m l c strip = s refl
asks_none s m l c move = m refl
asks_none s m l c line = l refl
asks_none s m l c close = c refl

-- ---- what is asked for

pub few_numbers : {w : List ℕ} {b n : ℕ} → Asks w b n → n ≤ 4
few_numbers strip = omega arith
few_numbers move = omega arith
few_numbers line = omega arith
few_numbers close = omega arith

pub the_strip : {w : List ℕ} {b n : ℕ} → Asks w b n → b ≡ 1 → Asks w 1 4
the_strip strip e = strip
the_strip move e = absurd (omega arith)
the_strip line e = absurd (omega arith)
the_strip close e = absurd (omega arith)

pub nothing_asked : {w : List ℕ} → AskedBy w None → (b n : ℕ) → Asks w b n → ⊥
nothing_asked {w} r = go refl r
  where
    go : {o : Option Asked} → o ≡ None → AskedBy w o → (b n : ℕ) → Asks w b n → ⊥
    go e (known q) = absurd (let z : ◌≡◌ {A = ℕ} 0 1 = cc in omega arith)
    go e (unknown f) = f

pub is_asked : {w : List ℕ} {a : Asked} → AskedBy w (Some a) → Asks w a.first a.count
is_asked {w} {a} r = go refl r
  where
    go : {o : Option Asked} → o ≡ Some a → AskedBy w o → Asks w a.first a.count
    go e (known {b = b} {n = n} q) =
        let same : record { first = b; count = n } ≡ a = cc in
        subst (λ (x : Asked). Asks w x.first x.count) same q
    go e (unknown f) = absurd (let z : ◌≡◌ {A = ℕ} 0 1 = cc in omega arith)

-- ---- where a word stands: from s to e

module _ (l : List ℕ) (i : ℕ) {s e : ℕ} (p : s ≡ start_of l i) (q : e ≡ s + run (is_not 32) (drop s l)) where
  pub end_is : e ≡ end_of l i
  end_is = q ∙ ap (λ (x : ℕ). x + run (is_not 32) (drop x l)) p

  pub word_is : take (e - s) (drop s l) ≡ word l i
  word_is = λ j. take (end_is j - p j) (drop (p j) l)

  pub no_word : e ≡ s → word l i ≡ []
  no_word h = let z : e - s ≡ 0 = omega arith in sym word_is ∙ ap (λ (x : ℕ). take x (drop s l)) z

  pub some_word : e ≤ length l → (e ≡ s → ⊥) → word l i ≡ [] → ⊥
  some_word h n z =
      let long : e - s ≤ length (drop s l) = omega (arith, length-drop s l) in
      n (omega (arith, length-take-le (e - s) (drop s l) long, ap length (word_is ∙ z), q))

-- a line of nothing has no word
pub nothing_said : (l : List ℕ) → length l ≡ 0 → word l 0 ≡ []
unfolding run
nothing_said [] h = refl
nothing_said (b ∷ l) h = absurd (omega arith)

-- ---- where the words end, by the place e of a comment

module _ (l : List ℕ) (e : ℕ) (p : e ≡ 0 + run (is_not 35) (drop 0 l)) where
  at_comment : e ≡ run (is_not 35) l
  at_comment = omega arith

  pub comment : e < length l → e ≡ words_end l
  unfolding words_end
  comment h = let q = at_comment in rw (lt-ltb (run (is_not 35) l) (length l) (omega arith)) q

  module _ (h : length l ≤ e) (k : e ≤ length l) where
    no_comment : words_end l ≡ (when eqb (get_or l (length l - 1) 0) 13 then length l - 1 else length l)
    unfolding words_end
    no_comment = let q = at_comment in rw (le-ltb (run (is_not 35) l) (length l) (omega arith)) refl

    all : e ≡ length l
    all = omega arith

    pub return_before : get_or l (e - 1) 0 ≡ 13 → e - 1 ≡ words_end l
    return_before r = ap (λ (x : ℕ). x - 1) all ∙ sym (no_comment ∙ rw (eq-eqb _ 13 (ap (λ (x : ℕ). get_or l (x - 1) 0) (sym all) ∙ r)) refl)

    pub no_return : (get_or l (e - 1) 0 ≡ 13 → ⊥) → e ≡ words_end l
    no_return r = all ∙ sym (no_comment ∙ rw (ne_eqb _ 13 (λ z. r (ap (λ (x : ℕ). get_or l (x - 1) 0) all ∙ z))) refl)
