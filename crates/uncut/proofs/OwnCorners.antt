-- An outline's own corners: their numbers over 1 are in lowest terms, and the list from a corner on, and up to it, has the corners from there on, and those before it.
use mathlib.Core.Path.{◌≡◌, refl, ap, ◌∙◌}
use mathlib.Core.List.{List, [], ◌∷◌, ◌++◌}
use Prim.Native.Nat.{ℕ, zero, suc, ◌+◌, ◌-◌, ◌*◌, ◌%◌, ◌≤◌, ◌<◌}
use native.Mathlib.Numerals.{towards_suc}
use native.Mathlib.Omega.{arith}
use lib.IntN.{ℤ, pos}
use lib.ListN.{length, get_or, take, drop, length-drop, drop_of_length-le}
use lib.Seq.{take_all, length-take-le, drop-cons, sets}
use Rattle.fraction.specs.Fraction.{LowestOf}
use Rattle.fraction.proofs.LowestTerms.{lowest_over_one}
use Rattle.grid.proofs.Fill.{Filled, filled_put}
use Rattle.rings.specs.Points.{Point}
use Rattle.rings.specs.Rings.{at}
use Rattle.convex.specs.Corners.{grid_point, corners_of}
use Rattle.convex.proofs.Places.{count}
use Rattle.convex.proofs.Places.{point_at_lem}
use Rattle.lowest.specs.Lowest.{started_at}
use Rattle.writing.specs.Numbers.{RingNumbers, no_corner, corner}
use Rattle.uncut.specs.Uncut.{own_corner}

-- ---- the numbers over 1
unfoldable pub over_one : List ℤ → List ℤ
over_one (x ∷ y ∷ zs) = x ∷ pos 1 ∷ y ∷ pos 1 ∷ over_one zs
over_one (x ∷ []) = []
over_one [] = []

itself : (n : ℤ) → LowestOf n (pos 1) (record { num = n; den = pos 1 })
itself n = record { lowest = lowest_over_one n; same = refl }

pub over_one_are : (zs : List ℤ) → RingNumbers (corners_of zs) (over_one zs)
unfolding corners_of over_one
over_one_are [] = no_corner
over_one_are (x ∷ []) = no_corner
over_one_are (x ∷ y ∷ zs) = corner (record { x = itself x; y = itself y }) (over_one_are zs)

pub over_one_length : (zs : List ℤ) → length zs % 2 ≡ 0 → length (over_one zs) ≡ 2 * length zs
unfolding over_one
over_one_length [] h = refl
over_one_length (x ∷ []) h = absurd (omega arith)
over_one_length (x ∷ y ∷ zs) h = omega (arith, over_one_length zs (omega arith))

-- ---- the list, two numbers further on
module _ (zs : List ℤ) (i : ℕ) where
  drop_two : i + 2 ≤ length zs → drop i zs ≡ get_or zs i (pos 0) ∷ get_or zs (i + 1) (pos 0) ∷ drop (i + 2) zs
  drop_two h =
      let h₀ : i < length zs = omega arith in
      let h₁ : suc i < length zs = omega arith in
      simp towards_suc (rw (drop-cons zs i (pos 0) h₀, drop-cons zs (suc i) (pos 0) h₁))

  pub next_own : {K out out₀ : List ℤ} {k : ℕ} → i + 2 ≤ length zs → length K ≤ length out₀ → Filled K (over_one (drop i zs)) out out₀ k
      → Filled K (over_one (drop (i + 2) zs)) (sets out k (get_or zs i (pos 0) ∷ pos 1 ∷ get_or zs (i + 1) (pos 0) ∷ pos 1 ∷ [])) out₀ (k + 4)
  unfolding over_one
  next_own h r s = filled_put (get_or zs i (pos 0) ∷ pos 1 ∷ get_or zs (i + 1) (pos 0) ∷ pos 1 ∷ []) (rw (drop_two h) at s) r

  pub none_due : length zs ≤ i → over_one (drop i zs) ≡ []
  unfolding over_one
  none_due h = rw drop_of_length-le

-- ---- the corners by their places
pub two_a_corner : (zs : List ℤ) {k : ℕ} → k < length (corners_of zs) → 2 * k + 2 ≤ length zs
two_a_corner zs h = omega (arith, count zs)

pub four_a_corner : (zs : List ℤ) → length zs % 2 ≡ 0 → 4 * length (corners_of zs) ≡ 2 * length zs
four_a_corner zs h = omega (arith, count zs)

pub own_at : (zs : List ℤ) {k : ℕ} → k < length (corners_of zs) → at (corners_of zs) k ≡ own_corner zs k
own_at zs {k} h = point_at_lem zs k h

-- ---- started at a place: the corners from there on, and those before it
corners_drop : (zs : List ℤ) (k : ℕ) → corners_of (drop (2 * k) zs) ≡ drop k (corners_of zs)
unfolding corners_of
corners_drop zs zero = refl
corners_drop [] (suc k) = ap corners_of (drop_of_length-le [] {i = 2 * suc k} (omega arith))
corners_drop (x ∷ []) (suc k) = ap corners_of (drop_of_length-le (x ∷ []) {i = 2 * suc k} (omega arith))
corners_drop (x ∷ y ∷ zs) (suc k) = let e : 2 * suc k ≡ suc (suc (2 * k)) = omega arith in ap (λ (n : ℕ). corners_of (drop n (x ∷ y ∷ zs))) e ∙ corners_drop zs k

corners_take : (zs : List ℤ) (k : ℕ) → corners_of (take (2 * k) zs) ≡ take k (corners_of zs)
unfolding corners_of
corners_take zs zero = refl
corners_take [] (suc k) = ap corners_of (take_all (2 * suc k) [] (omega arith))
corners_take (x ∷ []) (suc k) = ap corners_of (take_all (2 * suc k) (x ∷ []) (omega arith))
corners_take (x ∷ y ∷ zs) (suc k) =
    let e : 2 * suc k ≡ suc (suc (2 * k)) = omega arith in
    ap (λ (n : ℕ). corners_of (take n (x ∷ y ∷ zs))) e ∙ ap (λ (r : List Point). grid_point x y ∷ r) (corners_take zs k)

module _ (zs : List ℤ) (k : ℕ) where
  pub own_started : corners_of (drop (2 * k) zs) ++ corners_of (take (2 * k) zs) ≡ started_at (corners_of zs) k
  own_started = λ i. corners_drop zs k i ++ corners_take zs k i

  pub four_before : 2 * k ≤ length zs → 4 * length (corners_of (take (2 * k) zs)) ≡ 4 * k
  four_before h = omega (arith, count (take (2 * k) zs), length-take-le (2 * k) zs h)

  pub four_behind : length zs % 2 ≡ 0 → 4 * length (corners_of (drop (2 * k) zs)) ≡ 2 * (length zs - 2 * k)
  four_behind even = omega (arith, count (drop (2 * k) zs), length-drop (2 * k) zs)
