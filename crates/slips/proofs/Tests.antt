-- Each way out of the tests is a case of the definitions: the tests before it failed, and its own holds.
use mathlib.Core.Path.{◌≡◌, refl, sym, ap, ap₂, ◌∙◌}
use mathlib.Core.Bool.{Bool, true, false, ◌&&◌}
use mathlib.Core.List.{List, [], ◌∷◌}
use Prim.Native.Nat.{ℕ, zero, suc, ◌+◌, ◌-◌, ◌<◌, ◌≤◌}
use native.Mathlib.Omega.{arith}
use borrow.Author.Tests.{eq-eqb, ne_eqb, eqb-true, eqb-false}
use lib.Dec.{eqb}
use lib.ListN.{length, get_or, take, drop, length-drop}
use lib.Seq.{take_all}
use Rattle.std.specs.List.{starts_with, slice_get}
use Rattle.std.proofs.lemmas.Option.{get_or_from_slice_get}
use Rattle.std.proofs.lemmas.List.{get_or-drop}
use native.Mathlib.Nat.{add-zero}
use Rattle.text.proofs.Runs.{rest_is}
use Rattle.text.specs.Runs.{run, is, is_not, is_in}
use Rattle.decimal.specs.Decimals.{is_digit}
use Rattle.pen_line.specs.Lines.{start_of, end_of, word, words_end, spoken}
use Rattle.pen_line.proofs.Words.{end_is, word_is}
use Rattle.slips.specs.Slips.{has_mark, unseen, is_capital, of_digits, of_plain, of_number, ◌or_else◌, of_numbers, of_line}
use Rattle.slips.specs.declared.Slip.{Slip}
use Rattle.slips.specs.declared.Slip.TheVariants.{Mark, Unseen, Capital, Comma, PointLast, PointFirst, Plus, Exponent}
use Rattle.std.specs.Prelude.{Option, Some, None}

-- ---- a byte-order mark

turned : (a b : ℕ) → eqb a b ≡ eqb b a
turned a b = go (eqb a b) refl
  where
    go : (t : Bool) → eqb a b ≡ t → t ≡ eqb b a
    go true e = sym (eq-eqb b a (sym (eqb-true a b e)))
    go false e = sym (ne_eqb b a (λ z. eqb-false a b e (sym z)))

and_true : (t : Bool) → (t && true) ≡ t
and_true true = refl
and_true false = refl

pub mark_is : (l : List ℕ) → starts_with eqb l (239 ∷ 187 ∷ 191 ∷ []) ≡ has_mark l
unfolding has_mark
mark_is [] = refl
mark_is (a ∷ []) = ap (λ x. x && false) (turned 239 a)
mark_is (a ∷ b ∷ []) = ap₂ (λ x y. x && (y && false)) (turned 239 a) (turned 187 b)
mark_is (a ∷ b ∷ c ∷ l) = ap₂ (λ x y. x && y) (turned 239 a) (ap₂ (λ x y. x && y) (turned 187 b) (and_true (eqb 191 c) ∙ turned 191 c))

-- ---- the first byte, as the library gives it

pub first_some : (s : List ℕ) {x : ℕ} → Some x ≡ slice_get s 0 → x ≡ get_or s 0 0
first_some s {x} e = sym (get_or_from_slice_get s 0 x 0 (sym e))

pub first_none : (s : List ℕ) → None ≡ slice_get s 0 → [] ≡ s
first_none [] e = refl
first_none (b ∷ s) e = absurd (let z : ◌≡◌ {A = ℕ} 0 1 = cc in omega arith)

pub first_from : (l : List ℕ) (i : ℕ) → get_or (take (length l - i) (drop i l)) 0 0 ≡ get_or l i 0
first_from l i = ap (λ (s : List ℕ). get_or s 0 0) (rest_is l i) ∙ get_or-drop i l 0 0 ∙ ap (λ (k : ℕ). get_or l k 0) (add-zero i)

-- ---- a number

module _ (w : List ℕ) where
  pub small_e : is_in 101 w ≡ true → Some Exponent ≡ of_digits w
  unfolding of_digits
  small_e e = simp e

  module _ (a : is_in 101 w ≡ false) where
    pub capital_e : is_in 69 w ≡ true → Some Exponent ≡ of_digits w
    unfolding of_digits
    capital_e e = simp (a, e)

    pub no_e : is_in 69 w ≡ false → None ≡ of_digits w
    unfolding of_digits
    no_e e = simp (a, e)

  pub comma : is_in 44 w ≡ true → Some Comma ≡ of_plain w
  unfolding of_plain
  comma e = simp e

  module _ (a : is_in 44 w ≡ false) where
    pub point_last : get_or w (length w - 1) 0 ≡ 46 → Some PointLast ≡ of_plain w
    unfolding of_plain
    point_last e = simp (a, eq-eqb _ 46 e)

    module _ (b : get_or w (length w - 1) 0 ≡ 46 → ⊥) where
      pub point_first : get_or w 0 0 ≡ 46 → Some PointFirst ≡ of_plain w
      unfolding of_plain
      point_first e = simp (a, ne_eqb _ 46 b, eq-eqb (get_or w 0 0) 46 e)

      module _ (f : get_or w 0 0 ≡ 46 → ⊥) where
        pub plus : get_or w 0 0 ≡ 43 → Some Plus ≡ of_plain w
        unfolding of_plain
        plus e = simp (a, ne_eqb _ 46 b, ne_eqb _ 46 f, eq-eqb (get_or w 0 0) 43 e)

        module _ (g : get_or w 0 0 ≡ 43 → ⊥) where
          pub a_digit : is_digit (get_or w 0 0) ≡ true → of_digits w ≡ of_plain w
          unfolding of_plain
          a_digit e = simp (a, ne_eqb _ 46 b, ne_eqb _ 46 f, ne_eqb (get_or w 0 0) 43 g, e)

          pub no_digit : is_digit (get_or w 0 0) ≡ false → None ≡ of_plain w
          unfolding of_plain
          no_digit e = simp (a, ne_eqb _ 46 b, ne_eqb _ 46 f, ne_eqb (get_or w 0 0) 43 g, e)

pub no_bytes : (w : List ℕ) → length w ≡ 0 → None ≡ of_plain w
unfolding of_plain is_in run is_digit
no_bytes [] e = refl
no_bytes (b ∷ w) e = absurd (omega arith)

-- the part from the minus on is taken to its end
pub without_minus : (w : List ℕ) {from : ℕ} {s : Option Slip} → from ≡ 0 + run (is 45) (drop 0 w)
    → s ≡ of_plain (take (length w - from) (drop from w)) → s ≡ of_number w
unfolding of_number
without_minus w {from} h e =
    let q : from ≡ run (is 45) w = omega arith in
    let all : length (drop from w) ≤ length w - from = omega (arith, length-drop from w) in
    e ∙ ap of_plain (take_all _ _ all ∙ ap (λ (k : ℕ). drop k w) q)

-- ---- numbers

or_else_other : {s : Option Slip} (t : Option Slip) → s ≡ None → s or_else t ≡ t
unfolding ◌or_else◌
or_else_other t e = rw e refl

or_else_known : (s t : Option Slip) → (s ≡ None → ⊥) → s or_else t ≡ s
unfolding ◌or_else◌
or_else_known (Some s) t f = refl
or_else_known None t f = absurd (f refl)

numbers_on : (l : List ℕ) (i n : ℕ) → 0 < n → of_numbers l i n ≡ of_number (word l i) or_else of_numbers l (end_of l i) (n - 1)
unfolding of_numbers
numbers_on l i zero h = absurd (omega arith)
numbers_on l i (suc n) h = let e : suc n - 1 ≡ n = omega arith in rw e refl

-- of a word that stands from b to e, and whose slip is s
module _ (l : List ℕ) (i : ℕ) {n b e : ℕ} (p : b ≡ start_of l i) (q : e ≡ b + run (is_not 32) (drop b l)) (h : 0 < n)
    {s : Option Slip} (r : s ≡ of_number (take (e - b) (drop b l))) where
  its_slip : s ≡ of_number (word l i)
  its_slip = r ∙ ap of_number (word_is l i p q)

  pub passed : s ≡ None → of_numbers l i n ≡ of_numbers l e (n - 1)
  passed z =
      numbers_on l i n h ∙ or_else_other _ (sym its_slip ∙ z)
      ∙ ap (λ (k : ℕ). of_numbers l k (n - 1)) (sym (end_is l i p q))

  pub stopped : (s ≡ None → ⊥) → s ≡ of_numbers l i n
  stopped f = its_slip ∙ sym (numbers_on l i n h ∙ or_else_known _ _ (λ z. f (its_slip ∙ z)))

pub none_left : (l : List ℕ) (i : ℕ) {n : ℕ} → n ≤ 0 → of_numbers l i n ≡ None
unfolding of_numbers
none_left l i {n} h = let e : n ≡ 0 = omega arith in rw e refl

-- ---- a line

module _ (l : List ℕ) (n : ℕ) where
  pub mark : has_mark l ≡ true → Some Mark ≡ of_line l n
  unfolding of_line
  mark e = simp e

  module _ (a : has_mark l ≡ false) where
    pub blank : unseen l ≡ true → Some Unseen ≡ of_line l n
    unfolding of_line
    blank e = simp (a, e)

    module _ (b : unseen l ≡ false) where
      pub capital : is_capital (get_or l (start_of l 0) 0) ≡ true → Some Capital ≡ of_line l n
      unfolding of_line
      capital e = simp (a, b, e)

      pub small : is_capital (get_or l (start_of l 0) 0) ≡ false → of_numbers l (end_of l 0) n ≡ of_line l n
      unfolding of_line
      small e = simp (a, b, e)

pub spoken_to : (l : List ℕ) (n : ℕ) {end : ℕ} {s : Option Slip} → end ≡ words_end l → s ≡ of_line (take end l) n → s ≡ of_line (spoken l) n
spoken_to l n e h = h ∙ ap (λ (k : ℕ). of_line (take k l) n) e
