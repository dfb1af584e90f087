-- A number takes two bytes or more, since a word that is a number is not empty: words and the spaces before them are
-- as long as the text.
use mathlib.Core.Path.{◌≡◌, refl}
use mathlib.Core.Bool.{Bool, true, false}
use mathlib.Core.List.{List, [], ◌∷◌}
use Rattle.std.specs.Prelude.{Option, None, Some}
use Prim.Native.Nat.{ℕ, suc, ◌+◌, ◌*◌, ◌≤◌}
use native.Mathlib.Omega.{arith}
use lib.Dec.{eqb}
use lib.IntN.{ℤ}
use lib.ListN.{length}
use Rattle.whole.specs.Choice.{when◌then◌else◌}
use Rattle.words.specs.Digits.{word_value}
use Rattle.words.specs.Words.{words, arguments, onto, integers, and_integer, as_integer, numeral, has_minus}
use Rattle.arguments.specs.Arguments.{numbers_in}

-- the bytes of words, with a space before each
weight : List (List ℕ) → ℕ
weight [] = 0
weight (w ∷ ws) = suc (length w) + weight ws

longer : (b k : ℕ) (ws : List (List ℕ)) → weight ws ≡ suc k → weight (onto b ws) ≡ suc (suc k)
unfolding weight
longer b k [] e = absurd (omega arith)
longer b k (w ∷ ws) e = omega arith

words_weigh : (l : List ℕ) → weight (words l) ≡ suc (length l)
unfolding weight words
words_weigh [] = omega arith
words_weigh (b ∷ l) = go (eqb b 32) (words_weigh l)
  where
    go : (t : Bool) → weight (words l) ≡ suc (length l) → weight (when t then [] ∷ words l else onto b (words l)) ≡ suc
        (suc (length l))
    go true e = omega arith
    go false e = longer b (length l) (words l) e

empty : {z : ℤ} → as_integer (numeral []) ≡ Some z → ⊥
unfolding as_integer numeral has_minus word_value
empty e = let z : ◌≡◌ {A = ℕ} 0 1 = cc in omega arith

numbers_weigh : (ws : List (List ℕ)) (zs : List ℤ) → integers ws ≡ Some zs → 2 * length zs ≤ weight ws
unfolding weight integers
numbers_weigh [] zs h = let none_left : zs ≡ [] = cc in rw none_left (omega arith)
numbers_weigh (w ∷ ws) zs h = word w (as_integer (numeral w)) refl (integers ws) refl h (numbers_weigh ws)
  where
    word : (w : List ℕ) (r : Option ℤ) → as_integer (numeral w) ≡ r → (o : Option (List ℤ)) → integers ws ≡ o →
        and_integer r o ≡ Some zs →
        ((ys : List ℤ) → integers ws ≡ Some ys → 2 * length ys ≤ weight ws) → 2 * length zs ≤ suc
        (length w) + weight ws
    word w None e o k h i = let z : ◌≡◌ {A = ℕ} 0 1 = cc in absurd (omega arith)
    word w (Some z) e None k h i = let z : ◌≡◌ {A = ℕ} 0 1 = cc in absurd (omega arith)
    word [] (Some z) e (Some ys) k h i = absurd (empty e)
    word (b ∷ w) (Some z) e (Some ys) k h i =
        let same : zs ≡ z ∷ ys = cc in
        rw same (omega (arith, i ys k))

pub two_bytes : (text : List ℕ) (zs : List ℤ) → numbers_in text ≡ Some zs → 2 * length zs ≤ length text
unfolding arguments weight
two_bytes [] zs h = numbers_weigh [] zs h
two_bytes (b ∷ l) zs h = omega (arith, numbers_weigh (words l) zs h, words_weigh l)
