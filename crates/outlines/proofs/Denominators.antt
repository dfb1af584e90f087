-- Denominators never pass 32,766: every edge of what is left lies on the line of an outline's edge or of a side.
-- So every corner is an outline's corner or lies where such a line meets a side.
use mathlib.Core.Path.{subst}
use mathlib.Core.List.{List, [], ◌∷◌}
use mathlib.Core.Option.{Option, none, some}
use Prim.Native.Nat.{suc, ◌≤◌}
use native.Mathlib.Omega.{arith}
use lib.IntN.{ℤ, pos}
use lib.ListN.{length}
use lib.Signed.{◌≤ℤ◌, ◌<ℤ◌}
use Rattle.whole.specs.Within.{Within}
use Rattle.whole.proofs.Expressions.{var, con, ◌⊕◌, ◌⊖◌, ◌⊗◌, x0, x1}
use Rattle.whole.proofs.Polynomials.{ring}
use Rattle.whole.proofs.Order.{zarith, ≤_trans}
use Rattle.whole.proofs.Certificates.{po, eq_cancel, eqn, ◌⊹◌}
use Rattle.whole.proofs.Ranges.{within}
use Rattle.fraction.specs.Fraction.{LowestOf}
use Rattle.fraction.specs.declared.Fraction.{Fraction}
use Rattle.fraction.proofs.LowestTerms.{lowest_least}
use Rattle.grid.specs.declared.Window.{Window}
use Rattle.grid.specs.Table.{farthest, NumbersOnTable}
use Rattle.rings.specs.Lists.{All, ∅, ◌◂◌, Walk, last, step, Edges, nothing, closed}
use Rattle.rings.specs.Points.{Point, Line, value, through, Left, On, Real}
use Rattle.rings.specs.Rings.{Ring}
use Rattle.rings.specs.Cuts.{Between, Result, started}
use Rattle.rings.specs.Cuts as cuts
use Rattle.rings.specs.Windows.{side_lines}
use Rattle.rings.proofs.Plane.{cycle, between_value, between_proper, corners, det_of, nought}
use Rattle.rings.proofs.Lists.{Pairs, ◌◂ᵖ◌, all_map, edges_zip, turned_all}
use Rattle.rings.proofs.Convex.{CCW, ◌◂ᶜ◌}
use Rattle.rings.proofs.Orders.{all_order}
use Rattle.rings.proofs.Theorems.{convex_ccw, some_result}
use Rattle.convex.specs.Corners.{grid_point, corners_of}
use Rattle.passes.specs.Orders.{lines_in}
use Rattle.passes.proofs.Orders.{lines_arranged}
use Rattle.writing.specs.Numbers.{RingNumbers, no_corner, corner}
use Rattle.outlines.specs.Outlines.{OutlineGives, SmallDenominators, no_fraction, fraction}
use Rattle.writing.proofs.Numbers.{lowest_same, numbers_of_lem}
use Rattle.outlines.proofs.Unique.{gives_unique}
use Rattle.outlines.proofs.Passes.{lines_real, ring_gives, none_gives}
use Rattle.outlines.proofs.Traces.{Traced, cuts_traced}
use Rattle.outlines.proofs.Lines.{Ratio, Fine, Ruled, Chord, Side, left, right, bottom, top, meeting_fine, side_ruled, whole_ratio}

-- ---- two corners of an edge
record Along (u v : Point) : Type 0 where
  line : Line
  ruled : Ruled line
  from : On line u
  to : On line v
  first : Fine u
  second : Fine v

between_on : {u v c : Point} (l : Line) → Between u v c → On l u → On l v → On l c
between_on {u} {v} {c} l m hu hv =
    eq_cancel (m.k ∷ m.α ∷ m.β ∷ value l c ∷ value l u ∷ value l v ∷ []) (po (var 0) m.k⁺) (var 3) nought
    (eqn (con (pos 1)) (var 0 ⊗ var 3) (var 1 ⊗ var 4 ⊕ var 2 ⊗ var 5) (between_value m l) ⊹ eqn (var 1) (var 4) nought hu ⊹ eqn (var 2) (var 5) nought hv) tt

side_traced : {h : Line} → Side h → Traced Along Fine h
side_traced {h} s = record {
  first = λ u v r. r.first;
  second = λ u v r. r.second;
  crossing = λ u v c r a x.
      let l = r.line in
      let on = between_on l x.between r.from r.to in
      let chord : Chord l u v = record { from = r.from; to = r.to; first = r.first.proper; second = r.second.proper } in
      let fine = meeting_fine s r.ruled chord (between_proper x.between r.first.proper r.second.proper) a on x.on in (
        record { line = l; ruled = r.ruled; from = r.from; to = on; first = r.first; second = fine },
        fine,
        record { line = l; ruled = r.ruled; from = on; to = r.to; first = fine; second = r.second },
      );
  runs = λ a b p q on_a on_b. record { line = h; ruled = side_ruled s; from = on_a; to = on_b; first = p; second = q };
}

sides_traced : (l b r t : ℤ) → All (Traced Along Fine) (side_lines l b r t)
sides_traced l b r t = side_traced (left l) ◂ side_traced (right r) ◂ side_traced (bottom b) ◂ side_traced (top t) ◂ ∅

-- ---- the outline's own edges
data OnGrid : Point → Type 0 where
  on_grid : {x y : ℤ} → Within farthest x → Within farthest y → OnGrid (grid_point x y)

corners_on_grid : (zs : List ℤ) → NumbersOnTable zs → All OnGrid (corners_of zs)
unfolding corners_of
corners_on_grid [] h = ∅
corners_on_grid (x ∷ []) h = ∅
corners_on_grid (x ∷ y ∷ zs) h = on_grid (h 0 (omega arith)) (h 1 (omega arith)) ◂ corners_on_grid zs (λ k l. h (suc (suc k)) (omega arith))

grid_edge : {a b : Point} → Real (through a b) → OnGrid a → OnGrid b → Along a b
unfolding value through
grid_edge {a = a} {b = b} real (on_grid {x = x} {y = y} hx hy) (on_grid {x = x'} {y = y'} hx' hy') = record {
  line = through a b;
  ruled = record {
    real = real;
    a = within (farthest ∷ farthest ∷ []) (y ∷ y' ∷ []) (hy, (hy', tt)) (x0 ⊗ con (pos 1) ⊖ con (pos 1) ⊗ x1) tt;
    b = within (farthest ∷ farthest ∷ []) (x ∷ x' ∷ []) (hx, (hx', tt)) (con (pos 1) ⊗ x1 ⊖ x0 ⊗ con (pos 1)) tt;
  };
  from = ring (corners (a ∷ b ∷ [])) (det_of 0 1 0) nought tt;
  to = ring (corners (a ∷ b ∷ [])) (det_of 0 1 1) nought tt;
  first = fine x y;
  second = fine x' y';
}
  where
    fine : (x y : ℤ) → Fine (grid_point x y)
    fine x y = record {
      proper = omega zarith;
      x = whole_ratio x (ring (x ∷ []) x0 (x0 ⊗ con (pos 1)) tt);
      y = whole_ratio y (ring (y ∷ []) x0 (x0 ⊗ con (pos 1)) tt);
    }

-- of each edge of a ring another corner lies strictly to the left, so its line is real
abbrev RealEdge : Point → Point → Type 0
RealEdge a b = Real (through a b)

real_edges : (r : List Point) → 3 ≤ length r → CCW r → Edges RealEdge r
real_edges [] l c = absurd (omega arith)
real_edges (o ∷ []) l c = absurd (omega arith)
real_edges (o ∷ a ∷ []) l c = absurd (omega arith)
real_edges (o ∷ a ∷ b ∷ r) l (((h ◂ k) ◂ᵖ q) ◂ᶜ c) = closed (step (b, h.left) (step (o, (cycle h).left) (back r h q)))
  where
    back : {x y : Point} (ys : List Point) → Left o x y → Pairs (Left o) (y ∷ ys) → Walk RealEdge y ys o
    back {x} [] h q = last (x, (cycle (cycle h)).left)
    back (z ∷ ys) h ((k ◂ a) ◂ᵖ q) = step (o, (cycle k).left) (back ys k q)

both_ends : {P : Point → Type 0} {r : List Point} → All P r → Edges (λ a b. P a × P b) r
both_ends ∅ = nothing
both_ends {P} (◌◂◌ {x = o} p a) = closed (walk p a)
  where
    walk : {u : Point} {xs : List Point} → P u → All P xs → Walk (λ a b. P a × P b) u xs o
    walk h ∅ = last (h, p)
    walk h (k ◂ b) = step (h, k) (walk k b)

outline_along : (zs : List ℤ) → NumbersOnTable zs → Ring (corners_of zs) → Edges Along (corners_of zs)
outline_along zs on g =
    edges_zip (λ a b real k. grid_edge real k.0 k.1)
    (real_edges (corners_of zs) g.three ((convex_ccw (corners_of zs)).0 g.convex)) (both_ends (corners_on_grid zs on))

-- ---- the numbers of such corners
all_fine : {r : List Point} → Edges Along r → All Fine r
all_fine nothing = ∅
all_fine (closed w) = walk w
  where
    walk : {u z : Point} {xs : List Point} → Walk Along u xs z → All Fine (u ∷ xs)
    walk (last r) = r.first ◂ ∅
    walk (step r w) = r.first ◂ walk w

small_numbers : {r : List Point} {xs : List ℤ} → All Fine r → RingNumbers r xs → SmallDenominators xs
small_numbers ∅ no_corner = no_fraction
small_numbers (f ◂ a) (corner p ps) = fraction (small f.proper f.x p.x) (fraction (small f.proper f.y p.y) (small_numbers a ps))
  where
    small : {n w : ℤ} {q : Fraction} → pos 0 <ℤ w → Ratio n w → LowestOf n w q → q.den ≤ℤ pos 32766
    small h r l = ≤_trans (lowest_least {n = r.num} r.positive (lowest_same h r.same l)) r.small

-- ---- of every list that the call may give
pub small_given : {w : Window} {zs xs : List ℤ} → NumbersOnTable zs → Ring (corners_of zs) → OutlineGives w zs xs → SmallDenominators xs
small_given {w} {zs} {xs} on g p = let c = some_result (lines_in 0 w) (corners_of zs) (lines_real w (omega arith)) g in go c.0 c.1
  where
    go : (o : Option (List Point)) → Result (lines_in 0 w) (corners_of zs) o → SmallDenominators xs
    go none (cuts.none_left c) = subst SmallDenominators (gives_unique (none_gives {o = 0} w (omega arith) zs g c) p) no_fraction
    go (some s) (started c t st) =
        let traced = all_order (lines_arranged 0 w (omega arith)) (sides_traced w.left w.bottom w.right w.top) in
        let fine = turned_all t (all_fine (cuts_traced Along Fine traced (outline_along zs on g) c)) in
        let numbers = numbers_of_lem (all_map (λ v f. f.proper) fine) in
        subst SmallDenominators (gives_unique (ring_gives {o = 0} w (omega arith) zs g c t st numbers) p) (small_numbers fine numbers)
