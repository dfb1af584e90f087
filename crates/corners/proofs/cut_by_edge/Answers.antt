-- Both cross products are those of the stroke's own ends, and small enough for a cut.
use lib.Signed.{mag}
use mathlib.Core.Path.{subst₂}
use mir.Syntax.{w32, w64}
use mir.Val.{to_z, of_z}
use mir.Facts.{to_z-of_z}
use Rattle.std.proofs.Common.{◌≡◌, ◌<◌, ℤ, sym, ◌∙◌, subst, arith}
use Rattle.whole.specs.Within.{Within}
use Rattle.whole.proofs.Comparisons.{back}
use Rattle.whole.proofs.Ranges.{within_abs, fits_abs}
use Rattle.grid.specs.Table.{farthest, StrokeOnTable}
use Rattle.grid.specs.declared.Stroke.{Stroke}
use Rattle.spans.specs.Spans.{largest, SidedCut}
use Rattle.convex.specs.declared.Corner.{Corner}
use Rattle.convex.specs.declared.Way.{Way}
use Rattle.convex.specs.Ways.{way_from, cross_of}
use Rattle.convex.proofs.Places.{point_of}
use Rattle.corners.specs.Edges.{edge_p, edge_q}
use Rattle.corners.proofs.Edges.{p_is, q_is, p_within, q_within}
use Rattle.corners.proofs.cut_by_edge.Goals as goal

-- a number of the table, and the stroke's two ends, as they are read
abbrev read : ℤ → ℤ
read z = to_z w32 (of_z w32 z)

read_is : {z : ℤ} → Within farthest z → read z ≡ z
read_is h = to_z-of_z {w = w32} (fits_abs (omega (arith, within_abs h)))

module _ (a b : Corner) {s : Stroke} (on : StrokeOnTable s) where
  start_is : ◌≡◌ {A = Corner} (record { x = read s.x1; y = read s.y1 }) (record { x = s.x1; y = s.y1 })
  start_is = λ i. record { x = read_is on.x1 i; y = read_is on.y1 i }

  finish_is : ◌≡◌ {A = Corner} (record { x = read s.x2; y = read s.y2 }) (record { x = s.x2; y = s.y2 })
  finish_is = λ i. record { x = read_is on.x2 i; y = read_is on.y2 i }

  p_read : {run edge : Way} {p : ℤ} → run ≡ way_from (record { x = read s.x1; y = read s.y1 }) (record { x = read s.x2; y = read s.y2 })
      → edge ≡ way_from a b → p ≡ cross_of run edge → mag p < 9223372036854775808 → to_z w64 (of_z w64 p) ≡ edge_p (point_of a) (point_of b) s
  p_read {p = p} run edge product fits =
      let run_is = run ∙ (λ i. way_from (start_is i) (finish_is i)) in
      back w64 p fits ∙ product ∙ (λ i. cross_of (run_is i) (edge i)) ∙ p_is a b s

  q_read : {edge from : Way} {q : ℤ} → edge ≡ way_from a b → from ≡ way_from a (record { x = read s.x1; y = read s.y1 }) → q ≡ cross_of edge from
      → mag q < 9223372036854775808 → to_z w64 (of_z w64 q) ≡ edge_q (point_of a) (point_of b) s
  q_read {q = q} edge from product fits =
      let from_is = from ∙ (λ i. way_from a (start_is i)) in
      back w64 q fits ∙ product ∙ (λ i. cross_of (edge i) (from_is i)) ∙ q_is a b s

pub cut-requires-clause-within : goal.cut-requires-clause-within
cut-requires-clause-within c =
    let a = c.args in
    let r = c.requires in
    let p = p_read a.a a.b r.stroke_on_table c.way_from-run.ensures.value c.way_from-edge.ensures.value c.cross.ensures c.cross.type_inv in
    subst (Within largest) (sym p) (p_within a.a a.b a.s r.corner_on_table r.corner_on_table_2 r.stroke_on_table)

pub cut-requires-clause-within_2 : goal.cut-requires-clause-within_2
cut-requires-clause-within_2 c =
    let a = c.args in
    let r = c.requires in
    let q = q_read a.a a.b r.stroke_on_table c.way_from-edge.ensures.value c.way_from.ensures.value c.cross-2.ensures c.cross-2.type_inv in
    subst (Within largest) (sym q) (q_within a.a a.b a.s r.corner_on_table r.corner_on_table_2 r.stroke_on_table)

pub returns : goal.returns
returns c =
    let a = c.args in
    let on = c.requires.stroke_on_table in
    let p = p_read a.a a.b on c.way_from-run.ensures.value c.way_from-edge.ensures.value c.cross.ensures c.cross.type_inv in
    let q = q_read a.a a.b on c.way_from-edge.ensures.value c.way_from.ensures.value c.cross-2.ensures c.cross-2.type_inv in
    subst₂ (λ (p q : ℤ). SidedCut p q a.side a.kept c.cut.result) p q c.cut.ensures
