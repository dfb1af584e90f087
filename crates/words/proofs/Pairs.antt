-- Bytes as pairs of digits, taken pair by pair from the front.
use mathlib.Core.Path.{◌≡◌, refl, ap, ◌∙◌}
use mathlib.Core.Bool.{Bool, true, false, ◌&&◌}
use lib.Dec.{ltb}
use Rattle.whole.specs.Choice.{when◌then◌else◌}
use mathlib.Core.List.{List, [], ◌∷◌}
use Rattle.std.specs.Prelude.{Option, None, Some}
use Prim.Native.Nat.{ℕ, suc, ◌+◌, ◌*◌, ◌≤◌, ◌<◌}
use native.Mathlib.Numerals.{add-one}
use native.Mathlib.Omega.{arith}
use borrow.Author.Tests.{lt-ltb, le-ltb}
use lib.ListN.{length, get_or, drop}
use lib.Seq.{drop-cons}
use Rattle.words.specs.Digits.{digit_of}
use Rattle.words.specs.Words.{and, pairs}

two : (l : List ℕ) (i : ℕ) → i + 2 ≤ length l → drop i l ≡ get_or l i 0 ∷ get_or l (i + 1) 0 ∷ drop (i + 2) l
two l i h =
    let there : suc (suc i) ≡ i + 2 = omega arith in
    drop-cons l i 0 (omega arith) ∙ ap (get_or l i 0 ∷◌) (rw add-one (drop-cons l (suc i) 0 (omega arith) ∙ ap (λ k. get_or l (suc i) 0 ∷ drop k l) there))

module _ (l : List ℕ) (i : ℕ) where
  pub pair_more : i + 2 ≤ length l → digit_of (get_or l i 0) < 16 → digit_of (get_or l (i + 1) 0) < 16
      → pairs (drop i l) ≡ and (digit_of (get_or l i 0) * 16 + digit_of (get_or l (i + 1) 0)) (pairs (drop (i + 2) l))
  unfolding pairs
  pair_more h a b = rw (two l i h) (simp (lt-ltb _ _ a, lt-ltb _ _ b))

  pub high_none : i + 2 ≤ length l → 16 ≤ digit_of (get_or l i 0) → pairs (drop i l) ≡ None
  unfolding pairs
  high_none h a = rw (two l i h) (simp (le-ltb _ _ a))

  pub low_none : i + 2 ≤ length l → digit_of (get_or l i 0) < 16 → 16 ≤ digit_of (get_or l (i + 1) 0) → pairs (drop i l) ≡ None
  unfolding pairs
  low_none h a b = rw (two l i h) (simp (lt-ltb _ _ a, le-ltb _ _ b))

-- there are half as many bytes as digits
pub pairs_long : (w xs : List ℕ) → pairs w ≡ Some xs → length w ≡ 2 * length xs
unfolding pairs
pairs_long [] xs e = let same : xs ≡ [] = cc in rw same
pairs_long (a ∷ []) xs e = let z : ◌≡◌ {A = ℕ} 0 1 = cc in omega arith
pairs_long (a ∷ b ∷ w) xs e = omega (arith, go (ltb (digit_of a) 16 && ltb (digit_of b) 16) (pairs w) e (λ ys k. pairs_long w ys k))
  where
    go : (t : Bool) (o : Option (List ℕ)) → (when t then and (digit_of a * 16 + digit_of b) o else None) ≡ Some xs
        → ((ys : List ℕ) → o ≡ Some ys → length w ≡ 2 * length ys) → 2 + length w ≡ 2 * length xs
    go false o k ih = let z : ◌≡◌ {A = ℕ} 0 1 = cc in omega arith
    go true None k ih = let z : ◌≡◌ {A = ℕ} 0 1 = cc in omega arith
    go true (Some ys) k ih = let same : xs ≡ (digit_of a * 16 + digit_of b) ∷ ys = cc in omega (arith, ih ys refl, ap length same)
