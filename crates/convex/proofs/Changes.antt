-- Where every turn goes left, the corners are a ring exactly where down and not down change twice: walked round, the changes are twice the rises.
use mathlib.Core.Path.{◌≡◌, refl, sym, ap, ◌∙◌, transport}
use mathlib.Core.Bool.{Bool, true, false, not, xor, ◌&&◌}
use mathlib.Core.List.{List}
use mathlib.Core.Logic.{◌⊎◌, inl, inr, ◌↔◌}
use Prim.Native.Nat.{ℕ, zero, suc, ◌+◌, ◌*◌, ◌≤◌, ◌<◌}
use native.Mathlib.Omega.{arith}
use borrow.Author.Tests.{eq-eqb, eqb-true}
use lib.Dec.{eqb}
use lib.IntN.{ℤ, pos}
use lib.ListN.{length}
use lib.Signed.{◌≤ℤ◌, ◌<ℤ◌}
use Rattle.whole.specs.Choice.{when◌then◌else◌}
use Rattle.whole.proofs.Comparisons.{tt_ff, lt_yes, lt_no}
use Rattle.whole.proofs.Order.{zarith}
use Rattle.rings.specs.Points.{Left}
use Rattle.rings.specs.Rings.{StrictlyConvex}
use Rattle.rings.proofs.Hill.{Up, Down}
use Rattle.rings.proofs.Rises.{Rise}
use Rattle.rings.proofs.Tours.{ring_rises, turns_on, ring_of_rise}
use Rattle.convex.specs.Corners.{corners_of, strictly_convex, CornersOnTable}
use Rattle.convex.specs.Ways.{cross_of, turns_left, down, change_of}
use Rattle.convex.specs.declared.Way.{Way}
use Rattle.convex.proofs.Places.{corner, three_corners}
use Rattle.convex.proofs.Convexity.{left_yes, left_is, convex_yes, convex_is, all_proper}
use Rattle.convex.proofs.Sums.{sum, Counts, one, none, sum_once, once_sum}
use Rattle.convex.proofs.Slopes.{east, slope, down_slope, up_slope, sloping, rise_slopes, slopes_rise}
use Rattle.convex.proofs.Rounds.{place_of, point_of_lem, edge_of, around, point, edge_short, edge_again, turn_same}

abbrev pub change_of_lem : List ℤ → ℕ → ℕ
change_of_lem zs i = change_of (edge_of zs i) (edge_of zs (suc i))

-- ---- a change is a rise or a fall
abbrev one_if : Bool → ℕ
one_if x = when x then 1 else 0

pub change_most : (a b : Way) → change_of a b ≤ 1
unfolding change_of
change_most a b = go (xor (down a) (down b))
  where
    go : (x : Bool) → one_if x ≤ 1
    go true = omega arith
    go false = omega arith

change_rise : (x y : Bool) → one_if (xor x y) + one_if x ≡ 2 * one_if (x && not y) + one_if y
unfolding xor
change_rise true true = refl
change_rise true false = refl
change_rise false true = refl
change_rise false false = refl

turn_yes : (a b : Way) → turns_left a b ≡ true → pos 0 <ℤ cross_of a b
unfolding turns_left
turn_yes a b e = lt_yes refl refl e

module _ {zs : List ℤ} (g : CornersOnTable zs) where
  abbrev n : ℕ
  n = length (corners_of zs)

  abbrev edge : ℕ → Way
  edge = edge_of zs

  abbrev rise : ℕ → ℕ
  rise i = one_if (down (edge i) && not (down (edge (suc i))))

  balance : (m : ℕ) → sum m (change_of_lem zs) + one_if (down (edge 0)) ≡ 2 * sum m rise + one_if (down (edge m))
  unfolding change_of
  balance zero = refl
  balance (suc m) = omega (arith, balance m, change_rise (down (edge m)) (down (edge (suc m))))

  twice : sum n (change_of_lem zs) ≡ 2 * sum n rise
  twice = omega (arith, balance n, ap (λ (w : Way). one_if (down w)) (edge_again g))

  down_same : (i : ℕ) → (slope (edge i) <ℤ pos 0) ↔ Down east (point_of_lem zs i) (point_of_lem zs (suc i))
  down_same i =
      transport (λ t. (slope (edge i) <ℤ pos 0) ↔ Down east (sym (point g i) t) (sym (point g (suc i)) t))
      (down_slope (corner zs (place_of zs i)) (corner zs (place_of zs (suc i))))

  up_same : (i : ℕ) → (pos 0 <ℤ slope (edge i)) ↔ Up east (point_of_lem zs i) (point_of_lem zs (suc i))
  up_same i =
      transport (λ t. (pos 0 <ℤ slope (edge i)) ↔ Up east (sym (point g i) t) (sym (point g (suc i)) t))
      (up_slope (corner zs (place_of zs i)) (corner zs (place_of zs (suc i))))

  module _ (all : (i : ℕ) → i < length (corners_of zs) → turns_left (edge_of zs i) (edge_of zs (suc i)) ≡ true) where
    left : (i : ℕ) → i < n → Left (point_of_lem zs i) (point_of_lem zs (suc i)) (point_of_lem zs (suc (suc i)))
    left i h = left_yes (sym (turn_same g i) ∙ all i h)

    crossing : (i : ℕ) → pos 0 <ℤ cross_of (edge i) (edge (suc i))
    crossing i = turn_yes (edge i) (edge (suc i)) (turn_same g i ∙ left_is (turns_on (corners_of zs) (three_corners g) (around g) left i))

    way : (i : ℕ) → Up east (point_of_lem zs i) (point_of_lem zs (suc i)) ⊎ Down east (point_of_lem zs i) (point_of_lem zs (suc i))
    way i = go (sloping (edge_short g i) (edge_short g (suc i)) (crossing i))
      where
        go : (slope (edge i) <ℤ pos 0) ⊎ (pos 0 <ℤ slope (edge i)) → Up east (point_of_lem zs i) (point_of_lem zs (suc i)) ⊎ Down east (point_of_lem zs i) (point_of_lem zs (suc i))
        go (inl h) = inr ((down_same i).0 h)
        go (inr h) = inl ((up_same i).0 h)

    counted : (i : ℕ) → Counts (Rise east (point_of_lem zs) i) (rise i)
    counted i = go (down (edge i)) (down (edge (suc i))) refl refl
      where
        signs : Rise east (point_of_lem zs) i → ((edge i).y <ℤ pos 0) × (pos 0 ≤ℤ (edge (suc i)).y)
        signs r = slopes_rise (edge_short g i) (edge_short g (suc i)) (crossing i) ((down_same i).1 r.0) ((up_same (suc i)).1 r.1)

        go : (x y : Bool) → down (edge i) ≡ x → down (edge (suc i)) ≡ y → Counts (Rise east (point_of_lem zs) i) (one_if (x && not y))
        go true false e f =
            let s = rise_slopes (edge_short g i) (edge_short g (suc i)) (crossing i) (lt_yes refl refl e) (lt_no refl refl f) in
            one ((down_same i).0 s.0, (up_same (suc i)).0 s.1)
        go true true e f = none (λ r. let l = (signs r).1 in let m : (edge (suc i)).y <ℤ pos 0 = lt_yes refl refl f in omega zarith)
        go false y e f = none (λ r. let l = (signs r).0 in let m : pos 0 ≤ℤ (edge i).y = lt_no refl refl e in omega zarith)

    once : StrictlyConvex (corners_of zs) → sum n rise ≡ 1
    once c = once_sum rise counted n (ring_rises (corners_of zs) (three_corners g) (around g) c way refl (all_proper zs))

    ring_once : sum n rise ≡ 1 → StrictlyConvex (corners_of zs)
    ring_once e = ring_of_rise (corners_of zs) (three_corners g) (around g) left way refl (all_proper zs) (sum_once rise counted n e)

    pub two_changes : eqb (sum (length (corners_of zs)) (change_of_lem zs)) 2 ≡ strictly_convex (corners_of zs)
    two_changes = go (strictly_convex (corners_of zs)) (eqb (sum n (change_of_lem zs)) 2) refl refl
      where
        go : (x y : Bool) → strictly_convex (corners_of zs) ≡ x → eqb (sum n (change_of_lem zs)) 2 ≡ y → y ≡ x
        go true y e f = sym f ∙ eq-eqb (sum n (change_of_lem zs)) 2 (omega (arith, twice, once (convex_yes (corners_of zs) e)))
        go false true e f = absurd (tt_ff (sym (convex_is (corners_of zs) (ring_once (omega (arith, twice, eqb-true (sum n (change_of_lem zs)) 2 f)))) ∙ e))
        go false false e f = refl
