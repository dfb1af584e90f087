-- The corners of an outline lie inside each side that is clear of the rectangle it reaches, and a side that does not cut is clear.
use mathlib.Core.Path.{◌≡◌, refl, sym, subst}
use mathlib.Core.Bool.{Bool, false}
use mathlib.Core.List.{List, [], ◌∷◌}
use lib.IntN.{ℤ, pos, negsuc, ◌-ℤ◌}
use lib.ListN.{get_or}
use lib.Signed.{◌≤ℤ◌, lt_z}
use Rattle.whole.proofs.Expressions.{Expr, var, con, ◌⊕◌, ◌⊖◌, ◌⊗◌, neg}
use Rattle.whole.proofs.Polynomials.{ring}
use Rattle.whole.proofs.Order.{zarith, ≤_diff}
use Rattle.whole.proofs.Comparisons.{lt_no}
use Rattle.grid.specs.Sides.{Side, left, right, bottom, top, place_of, Clear}
use Rattle.grid.specs.declared.Window.{Window}
use Rattle.reach.specs.Reach.{Reaches}
use Rattle.rings.specs.Lists.{All}
use Rattle.rings.specs.Points.{value, In}
use Rattle.rings.specs.Windows.{left_side, right_side, bottom_side, top_side}
use Rattle.rings.proofs.Plane.{nought}
use Rattle.convex.specs.Corners.{grid_point, corners_of}
use Rattle.limits.specs.Sides.{side_line}
use Rattle.passes.specs.Passes.{Cutting}
use Rattle.crossings.proofs.Outlines.{corners_all}

-- ---- the value of each side at a point of the grid; the side's number, x and y are the variables 0 to 2
abbrev value_by : Expr → Expr → Expr → Expr
value_by a b c = a ⊗ var 1 ⊕ b ⊗ var 2 ⊕ c ⊗ con (pos 1)

module _ (c x y : ℤ) where
  pub left_at : value (left_side c) (grid_point x y) ≡ x -ℤ c
  unfolding left_side value
  left_at = ring (c ∷ x ∷ y ∷ []) (value_by (con (pos 1)) nought (neg (var 0))) (var 1 ⊖ var 0) tt

  pub right_at : value (right_side c) (grid_point x y) ≡ c -ℤ x
  unfolding right_side value
  right_at = ring (c ∷ x ∷ y ∷ []) (value_by (con (negsuc 0)) nought (var 0)) (var 0 ⊖ var 1) tt

  pub bottom_at : value (bottom_side c) (grid_point x y) ≡ y -ℤ c
  unfolding bottom_side value
  bottom_at = ring (c ∷ x ∷ y ∷ []) (value_by nought (con (pos 1)) (neg (var 0))) (var 2 ⊖ var 0) tt

  pub top_at : value (top_side c) (grid_point x y) ≡ c -ℤ y
  unfolding top_side value
  top_at = ring (c ∷ x ∷ y ∷ []) (value_by nought (con (negsuc 0)) (var 0)) (var 0 ⊖ var 2) tt

-- a value of which both parts are compared with a number between them
between : {v a b : ℤ} (m : ℤ) → v ≡ b -ℤ a → a ≤ℤ m → m ≤ℤ b → pos 0 ≤ℤ v
between {a = a} {b} m e h k = subst (λ z. pos 0 ≤ℤ z) (sym e) (≤_diff {a = a} {b = b} (omega zarith))

pub clear_in : {zs : List ℤ} {b : Window} (w : Window) (k : Side) → Reaches zs b → Clear w b k → All (In (side_line w k)) (corners_of zs)
clear_in {zs} {b} w left r c = corners_all zs (λ k h. between b.left (left_at w.left _ _) c (r.left k h))
clear_in {zs} {b} w right r c = corners_all zs (λ k h. between b.right (right_at w.right _ _) (r.right k h) c)
clear_in {zs} {b} w bottom r c = corners_all zs (λ k h. between b.bottom (bottom_at w.bottom _ _) c (r.bottom k h))
clear_in {zs} {b} w top r c = corners_all zs (λ k h. between b.top (top_at w.top _ _) (r.top k h) c)

-- ---- which sides cut, by their places
abbrev pub cutting : Window → Window → List Bool
cutting w b = lt_z b.left w.left ∷ lt_z w.right b.right ∷ lt_z b.bottom w.bottom ∷ lt_z w.top b.top ∷ []

-- a side that does not cut is clear
clear : (w b : Window) (k : Side) → get_or (cutting w b) (place_of k) false ≡ false → Clear w b k
clear w b left e = lt_no refl refl e
clear w b right e = lt_no refl refl e
clear w b bottom e = lt_no refl refl e
clear w b top e = lt_no refl refl e

pub cutting_is : (w b : Window) {zs : List ℤ} → Reaches zs b → Cutting w zs (cutting w b)
cutting_is w b r k e = clear_in w k r (clear w b k e)
