-- The corners of a list walked round, from the closing edge on: a turn of two edges is a side of a line, and in a ring every turn goes left.
use mathlib.Core.Path.{◌≡◌, refl, sym, ap, ◌∙◌}
use mathlib.Core.Bool.{Bool, true, false}
use mathlib.Core.List.{List, [], ◌∷◌}
use Prim.Native.Nat.{ℕ, zero, suc, ◌+◌, ◌-◌, ◌≤◌, ◌<◌}
use native.Mathlib.Omega.{arith}
use lib.IntN.{ℤ, pos}
use lib.ListN.{length}
use lib.Signed.{lt_z}
use Rattle.whole.proofs.Comparisons.{tt_ff}
use Rattle.whole.proofs.Expressions.{var, con}
use Rattle.whole.proofs.Polynomials.{ring}
use Rattle.rings.specs.Points.{Point, value, through}
use Rattle.rings.specs.Rings.{at, along, closing}
use Rattle.rings.proofs.Tours.{Tour, edge_end, again, ring_turns}
use Rattle.convex.specs.Corners.{corners_of, next, is_left, strictly_convex, CornersOnTable}
use Rattle.convex.specs.Ways.{Short, way_from, turns_left}
use Rattle.convex.specs.declared.Corner.{Corner}
use Rattle.convex.specs.declared.Way.{Way}
use Rattle.convex.proofs.Places.{side_by, cross_by, point_of, corner, point_at_lem, three_corners, corner_on, way_short}
use Rattle.convex.proofs.Convexity.{left_is, convex_yes, next_edge, edge_next}

-- ---- round n places, from the last
abbrev round : ℕ → ℕ → ℕ
round n zero = n - 1
round n (suc i) = next n (round n i)

round_below : (n : ℕ) → 1 ≤ n → (i : ℕ) → round n i < n
round_below n h zero = omega arith
round_below n h (suc i) = edge_end (next_edge (round_below n h i))

round_is : (n : ℕ) → 1 ≤ n → (i : ℕ) → i < n → round n (suc i) ≡ i
round_is n h zero l = edge_next (closing (omega arith))
round_is n h (suc i) l = ap (next n) (round_is n h i (omega arith)) ∙ edge_next (along l)

-- ---- the corners that are reached, as places and as points, and the edge from each
abbrev pub place_of : List ℤ → ℕ → ℕ
place_of zs = round (length (corners_of zs))

abbrev pub point_of_lem : List ℤ → ℕ → Point
point_of_lem zs i = at (corners_of zs) (place_of zs i)

abbrev pub edge_of : List ℤ → ℕ → Way
edge_of zs i = way_from (corner zs (place_of zs i)) (corner zs (place_of zs (suc i)))

step_left : (a b p : Corner) → turns_left (way_from a b) (way_from b p) ≡ is_left (point_of a) (point_of b) (point_of p)
unfolding turns_left is_left value through
step_left a b p =
    ap (lt_z (pos 0)) (ring (a.x ∷ a.y ∷ b.x ∷ b.y ∷ p.x ∷ p.y ∷ []) (cross_by 0 2 2 4) (side_by (var 0) (var 1) (var 2) (var 3) (var 4) (var 5) (con (pos 1))) tt)

module _ {zs : List ℤ} (g : CornersOnTable zs) where
  some : 1 ≤ length (corners_of zs)
  some = omega (arith, three_corners g)

  below : (i : ℕ) → place_of zs i < length (corners_of zs)
  below = round_below (length (corners_of zs)) some

  pub around : Tour (length (corners_of zs)) (place_of zs)
  around = record { edge = λ i. next_edge (below i); is = round_is (length (corners_of zs)) some }

  pub point : (i : ℕ) → point_of_lem zs i ≡ point_of (corner zs (place_of zs i))
  point i = point_at_lem zs (place_of zs i) (below i)

  pub edge_short : (i : ℕ) → Short (edge_of zs i)
  edge_short i = way_short (corner_on g (place_of zs i) (below i)) (corner_on g (place_of zs (suc i)) (below (suc i)))

  pub edge_again : edge_of zs (length (corners_of zs)) ≡ edge_of zs 0
  edge_again = λ t. way_from (corner zs (back 0 (length (corners_of zs)) (omega arith) t)) (corner zs (back 1 (suc (length (corners_of zs))) (omega arith) t))
    where
      back : (i j : ℕ) → j ≡ i + length (corners_of zs) → place_of zs j ≡ place_of zs i
      back = again (corners_of zs) (three_corners g) around

  pub turn_same : (i : ℕ) → turns_left (edge_of zs i) (edge_of zs (suc i)) ≡ is_left (point_of_lem zs i) (point_of_lem zs (suc i)) (point_of_lem zs (suc (suc i)))
  turn_same i =
      step_left (corner zs (place_of zs i)) (corner zs (place_of zs (suc i))) (corner zs (place_of zs (suc (suc i))))
      ∙ sym (λ t. is_left (point i t) (point (suc i) t) (point (suc (suc i)) t))

  pub not_left : (i : ℕ) → turns_left (edge_of zs i) (edge_of zs (suc i)) ≡ false → strictly_convex (corners_of zs) ≡ false
  not_left i e = go (strictly_convex (corners_of zs)) refl
    where
      go : (b : Bool) → strictly_convex (corners_of zs) ≡ b → b ≡ false
      go true f = absurd (tt_ff (sym (left_is (ring_turns (corners_of zs) (three_corners g) around (convex_yes (corners_of zs) f) i)) ∙ sym (turn_same i) ∙ e))
      go false f = refl
