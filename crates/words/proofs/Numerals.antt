-- Words with a minus in front, and the ranges of the numbers that words are.
use mathlib.Core.Path.{◌≡◌, refl, sym, ap, ◌∙◌}
use borrow.Author.Rules.{part_to_end}
use mathlib.Core.Bool.{Bool, true, false}
use mathlib.Core.List.{List, [], ◌∷◌}
use Rattle.std.specs.List.{starts_with}
use Rattle.std.specs.Prelude.{nat_eq, Option, None, Some, option_map}
use Prim.Native.Nat.{ℕ, zero, suc, ◌-◌, ◌≤◌, ◌^◌}
use native.Mathlib.Omega.{arith}
use borrow.Author.Tests.{leb-true}
use lib.Dec.{eqb, leb, leb-zero, leb-suc-zero, leb-suc-suc}
use lib.IntN.{ℤ, pos, negsuc, neg_ℤ}
use lib.ListN.{length, take, drop}
use Rattle.whole.specs.Choice.{when◌then◌else◌}
use Rattle.words.specs.Digits.{word_value}
use Rattle.words.specs.Words.{up_to, has_minus, numeral, unsigned, as_integer}

-- ---- the minus

-- the library's test of the first byte
pub starts : (w : List ℕ) → starts_with nat_eq w (45 ∷ []) ≡ has_minus w
unfolding has_minus
starts [] = refl
starts (b ∷ w) = grind arith

pub minus_long : (w : List ℕ) → has_minus w ≡ true → 1 ≤ length w
unfolding has_minus
minus_long [] h = let z : ◌≡◌ {A = ℕ} 0 1 = cc in omega arith
minus_long (b ∷ w) h = omega arith

-- ---- the range of what was read

pub up_to_is : (most n : ℕ) (o : Option ℕ) → Some n ≡ up_to most o → n ≤ most
unfolding up_to
up_to_is most n None h = let z : ◌≡◌ {A = ℕ} 0 1 = cc in omega arith
up_to_is most n (Some m) h = go (leb m most) refl h
  where
    go : (t : Bool) → leb m most ≡ t → Some n ≡ (when t then Some m else None) → n ≤ most
    go true e k = let same : n ≡ m = cc in omega (arith, leb-true m most e)
    go false e k = let z : ◌≡◌ {A = ℕ} 0 1 = cc in omega arith

pub unsigned_is : (most n : ℕ) (o : Option ℤ) → Some n ≡ unsigned most o → n ≤ most
unfolding unsigned up_to
unsigned_is most n None h = let z : ◌≡◌ {A = ℕ} 0 1 = cc in omega arith
unsigned_is most n (Some (pos m)) h = up_to_is most n (Some m) h
unsigned_is most n (Some (negsuc m)) h = let z : ◌≡◌ {A = ℕ} 0 1 = cc in omega arith

abbrev pub minus : Option ℕ → Option ℤ
minus o = option_map (λ n. neg_ℤ (pos n)) o

abbrev pub plus : Option ℕ → Option ℤ
plus o = option_map pos o

module _ (w : List ℕ) where
  with_minus : has_minus w ≡ true → numeral w ≡ option_map (λ n. neg_ℤ (pos n)) (word_value 10 (drop 1 w))
  unfolding numeral
  with_minus h = simp h

  without : has_minus w ≡ false → numeral w ≡ option_map pos (word_value 10 w)
  unfolding numeral
  without h = simp h

  pub integer_minus : has_minus w ≡ true → as_integer (numeral w) ≡ minus (up_to (2 ^ 31) (word_value 10 (drop 1 w)))
  unfolding as_integer up_to
  integer_minus h = ap as_integer (with_minus h) ∙ go (word_value 10 (drop 1 w))
    where
      go : (o : Option ℕ) → as_integer (option_map (λ n. neg_ℤ (pos n)) o) ≡ minus (up_to (2 ^ 31) o)
      go None = refl
      go (Some zero) = refl
      go (Some (suc n)) = at (leb (suc n) (2 ^ 31))
        where
          at : (t : Bool) → (when t then Some (neg_ℤ (pos (suc n))) else None) ≡ minus (when t then Some (suc n) else None)
          at true = refl
          at false = refl

  pub integer_plus : has_minus w ≡ false → as_integer (numeral w) ≡ plus (up_to 2147483647 (word_value 10 w))
  unfolding as_integer up_to
  integer_plus h = ap as_integer (without h) ∙ go (word_value 10 w)
    where
      go : (o : Option ℕ) → as_integer (option_map pos o) ≡ plus (up_to 2147483647 o)
      go None = refl
      go (Some n) = rw (leb-suc-suc n 2147483647) (at (leb n 2147483647))
        where
          at : (t : Bool) → (when t then Some (pos n) else None) ≡ plus (when t then Some n else None)
          at true = refl
          at false = refl

  pub unsigned_minus : (most : ℕ) → has_minus w ≡ true → unsigned most (numeral w) ≡ up_to 0 (word_value 10 (drop 1 w))
  unfolding unsigned up_to
  unsigned_minus most h = ap (unsigned most) (with_minus h) ∙ go (word_value 10 (drop 1 w))
    where
      go : (o : Option ℕ) → unsigned most (option_map (λ n. neg_ℤ (pos n)) o) ≡ up_to 0 o
      go None = refl
      go (Some zero) = simp (leb-zero most)
      go (Some (suc n)) = simp (leb-suc-zero n)

  pub unsigned_plus : (most : ℕ) → has_minus w ≡ false → unsigned most (numeral w) ≡ up_to most (word_value 10 w)
  unfolding unsigned up_to
  unsigned_plus most h = ap (unsigned most) (without h) ∙ go (word_value 10 w)
    where
      go : (o : Option ℕ) → unsigned most (option_map pos o) ≡ up_to most o
      go None = refl
      go (Some n) = refl

-- ---- the same of what was read, a minus in front or none

module _ (w : List ℕ) (m : Bool) (r : Option ℕ) (k : m ≡ has_minus w) where
  pub integer_below : m ≡ true → r ≡ up_to (2 ^ 31) (word_value 10 (take (length w - 1) (drop 1 w))) → as_integer (numeral w) ≡ minus r
  integer_below t e = integer_minus w (sym k ∙ t) ∙ ap minus (sym (e ∙ ap (λ v. up_to (2 ^ 31) (word_value 10 v)) (part_to_end w 1)))

  pub integer_above : m ≡ false → r ≡ up_to 2147483647 (word_value 10 w) → as_integer (numeral w) ≡ plus r
  integer_above f e = integer_plus w (sym k ∙ f) ∙ ap plus (sym e)

  pub unsigned_below : (most : ℕ) → m ≡ true → r ≡ up_to 0 (word_value 10 (take (length w - 1) (drop 1 w))) → r ≡ unsigned most (numeral w)
  unsigned_below most t e = e ∙ ap (λ v. up_to 0 (word_value 10 v)) (part_to_end w 1) ∙ sym (unsigned_minus w most (sym k ∙ t))

  pub unsigned_above : (most : ℕ) → m ≡ false → r ≡ up_to most (word_value 10 w) → r ≡ unsigned most (numeral w)
  unsigned_above most f e = e ∙ sym (unsigned_plus w most (sym k ∙ f))

-- a number that was read is in range
pub read_small : (most n : ℕ) (o r : Option ℕ) → r ≡ Some n → r ≡ up_to most o → n ≤ most
read_small most n o r s e = up_to_is most n o (sym s ∙ e)
