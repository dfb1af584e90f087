-- Corners by their places: a test at every place, the corner at a place, corners on the table.
use mathlib.Core.Path.{◌≡◌, refl, sym, ◌∙◌, subst}
use mathlib.Core.Bool.{Bool, true, and-eq-true_iff}
use mathlib.Core.List.{List, [], ◌∷◌}
use Prim.Native.Nat.{ℕ, zero, suc, ◌+◌, ◌*◌, ◌/◌, ◌≤◌, ◌<◌}
use native.Mathlib.Omega.{arith}
use borrow.Author.Count.{below_more}
use lib.IntN.{ℤ, pos}
use lib.ListN.{length, get_or}
use Rattle.whole.proofs.Expressions.{Expr, var, con, ◌⊕◌, ◌⊖◌, ◌⊗◌}
use Rattle.whole.proofs.Ranges.{Bounds, within}
use Rattle.grid.specs.Table.{farthest}
use Rattle.rings.specs.Points.{Point}
use Rattle.rings.specs.Rings.{at}
use Rattle.convex.specs.Corners.{grid_point, corners_of, every, CornersOnTable}
use Rattle.convex.specs.Ways.{CornerOnTable, Short, corner_at, way_from}
use Rattle.convex.specs.declared.Corner.{Corner}

-- ---- a test at every place
pub every_at : (n : ℕ) (f : ℕ → Bool) → every n f ≡ true → (i : ℕ) → i < n → f i ≡ true
unfolding every
every_at zero f e i h = absurd (omega arith)
every_at (suc n) f e i h = let b = (and-eq-true_iff (f n) (every n f)).0 e in below_more (λ (k : ℕ). f k ≡ true) n (every_at n f b.1) b.0 i (omega arith)

pub every_of : (n : ℕ) (f : ℕ → Bool) → ((i : ℕ) → i < n → f i ≡ true) → every n f ≡ true
unfolding every
every_of zero f h = refl
every_of (suc n) f h = simp (h n (omega arith), every_of n f (λ i l. h i (omega arith)))

-- ---- the determinant of two points of the grid and a point (X, Y, W), quoted
abbrev pub side_by : Expr → Expr → Expr → Expr → Expr → Expr → Expr → Expr
side_by ax ay bx by X Y W = (ay ⊗ con (pos 1) ⊖ con (pos 1) ⊗ by) ⊗ X ⊕ (con (pos 1) ⊗ bx ⊖ ax ⊗ con (pos 1)) ⊗ Y ⊕ (ax ⊗ by ⊖ ay ⊗ bx) ⊗ W

-- and the cross product of the ways from the point at i to that at j, and from that at k to that at l, where a point's x and y are neighbours
abbrev pub cross_by : ℕ → ℕ → ℕ → ℕ → Expr
cross_by i j k l = (var j ⊖ var i) ⊗ (var (suc l) ⊖ var (suc k)) ⊖ (var (suc j) ⊖ var (suc i)) ⊗ (var l ⊖ var k)

-- ---- the corner at a place
abbrev pub point_of : Corner → Point
point_of a = grid_point a.x a.y

abbrev pub corner : List ℤ → ℕ → Corner
corner zs k = corner_at zs (2 * k)

pub count : (zs : List ℤ) → length (corners_of zs) ≡ length zs / 2
unfolding corners_of
count [] = refl
count (x ∷ []) = refl
count (x ∷ y ∷ zs) = omega (arith, count zs)

pub point_at_lem : (zs : List ℤ) (k : ℕ) → k < length (corners_of zs) → at (corners_of zs) k ≡ point_of (corner zs k)
unfolding corners_of
point_at_lem [] k h = absurd (omega arith)
point_at_lem (x ∷ []) k h = absurd (omega arith)
point_at_lem (x ∷ y ∷ zs) zero h = refl
point_at_lem (x ∷ y ∷ zs) (suc k) h =
    let e : 2 * suc k ≡ suc (suc (2 * k)) = omega arith in
    let f : 2 * suc k + 1 ≡ suc (suc (2 * k + 1)) = omega arith in
    point_at_lem zs k (omega arith) ∙ sym (λ i. grid_point (get_or (x ∷ y ∷ zs) (e i) (pos 0)) (get_or (x ∷ y ∷ zs) (f i) (pos 0)))

-- ---- corners on the table, and the ways between them
pub way_short : {a b : Corner} → CornerOnTable a → CornerOnTable b → Short (way_from a b)
way_short {a} {b} ha hb =
    let β : List ℕ = farthest ∷ farthest ∷ [] in
    let x : Bounds β (a.x ∷ b.x ∷ []) = (ha.x, (hb.x, tt)) in
    let y : Bounds β (a.y ∷ b.y ∷ []) = (ha.y, (hb.y, tt)) in
    record { x = within β (a.x ∷ b.x ∷ []) x (var 1 ⊖ var 0) tt; y = within β (a.y ∷ b.y ∷ []) y (var 1 ⊖ var 0) tt }

module _ {zs : List ℤ} (g : CornersOnTable zs) where
  pub three_corners : 3 ≤ length (corners_of zs)
  three_corners = omega (arith, count zs, g.three)

  pub corner_on : (k : ℕ) → k < length (corners_of zs) → CornerOnTable (corner zs k)
  corner_on k h = record { x = g.on (2 * k) (omega (arith, count zs)); y = g.on (2 * k + 1) (omega (arith, count zs)) }

  -- a corner that was read
  pub read_on : {p : Corner} (i : ℕ) → i + 1 < length zs → p ≡ corner_at zs i → CornerOnTable p
  read_on i h e = subst CornerOnTable (sym e) (record { x = g.on i (omega arith); y = g.on (i + 1) h })
