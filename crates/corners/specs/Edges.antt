-- The edges of a corner window as conditions on a stroke.
--   start s, finish s     where a stroke starts, and where it ends
--   edge_p a b s, edge_q a b s   the p and the q of an edge: the stroke's point at t is left of or on the edge from a to b where p·t ≤ q. q is the
--                         determinant of the edge and the stroke's start, positive where that is left of the edge; at the stroke's end it is q − p
--   edge_condition cs s k  the condition of the edge from the corner k to the next, which after the last is the first
--   first_conditions cs s n   the conditions of the edges from the first n corners, in their order
--   edge_conditions cs s   those of all edges, each at the place of its first corner, which is its number
--   EdgeCut a b s k r r'  what `cut_by_edge` promises: r' is what of the span r lies left of or on the edge from a to b, which has the number k
use Rattle.std.specs.Prelude.{List, [], ◌∷◌, ◌++◌, ℕ, zero, suc, ℤ, ◌-ℤ◌, length}
use Rattle.grid.specs.declared.Stroke.{Stroke}
use Rattle.rings.specs.Points.{Point, det}
use Rattle.rings.specs.Rings.{at}
use Rattle.convex.specs.Corners.{grid_point, next}
use Rattle.convex.specs.declared.Corner.{Corner}
use Rattle.spans.specs.Sides.{Condition}
use Rattle.spans.specs.Spans.{SidedCut}
use Rattle.spans.specs.declared.SidedSpan.{SidedSpan}

abbrev pub start : Stroke → Point
start s = grid_point s.x1 s.y1

abbrev pub finish : Stroke → Point
finish s = grid_point s.x2 s.y2

abbrev pub edge_p : Point → Point → Stroke → ℤ
edge_p a b s = det a b (start s) -ℤ det a b (finish s)

abbrev pub edge_q : Point → Point → Stroke → ℤ
edge_q a b s = det a b (start s)

abbrev pub edge_condition : List Point → Stroke → ℕ → Condition
edge_condition cs s k = let a = at cs k in let b = at cs (next (length cs) k) in record { p = edge_p a b s; q = edge_q a b s }

abbrev pub first_conditions : List Point → Stroke → ℕ → List Condition
first_conditions cs s zero = []
first_conditions cs s (suc n) = first_conditions cs s n ++ edge_condition cs s n ∷ []

abbrev pub edge_conditions : List Point → Stroke → List Condition
edge_conditions cs s = first_conditions cs s (length cs)

abbrev pub EdgeCut : Corner → Corner → Stroke → ℕ → SidedSpan → SidedSpan → Type 0
EdgeCut a b s = SidedCut (edge_p (grid_point a.x a.y) (grid_point b.x b.y) s) (edge_q (grid_point a.x a.y) (grid_point b.x b.y) s)
