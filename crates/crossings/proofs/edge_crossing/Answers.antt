-- An upright limit is a line x = c, and a level one is that with x and y exchanged.
use Rattle.std.proofs.Common.{sym, subst, rules}
use Rattle.grid.specs.declared.Stroke.{Stroke}
use Rattle.grid.specs.Table.{StrokeOnTable}
use Rattle.rings.specs.Windows.{left_side}
use Rattle.crossings.specs.Tags.{stroke_from, edge_of}
use Rattle.limits.specs.Limits.{limit_line}
use Rattle.memory.specs.Memory.{point_of}
use Rattle.crossings.specs.Meetings.{Meets}
use Rattle.crossings.proofs.Outlines.{edge_on_table}
use Rattle.crossings.proofs.Meetings.{upright_meets, level_meets}
use Rattle.crossings.proofs.edge_crossing.Goals as goal

pub meet-requires-clause-stroke_on_table : goal.meet-requires-clause-stroke_on_table
meet-requires-clause-stroke_on_table c =
    let on : StrokeOnTable c.edge-e.result = subst StrokeOnTable (sym c.edge-e.ensures) (edge_on_table c.requires.outline_on_table c.args.k c.requires.k_in_bounds) in
    search rules

pub returns-then-l-eq0 : goal.returns-then-l-eq0
returns-then-l-eq0 c =
    let l = c.args.l in
    let p = point_of c.meet.result in
    let met : Meets (left_side l.c) c.edge-e.result p = search rules in
    subst (λ (e : Stroke). Meets (limit_line l) e p) c.edge-e.ensures (upright_meets l c.if-l-eq0.true met)

pub meet-p-requires-clause-stroke_on_table : goal.meet-p-requires-clause-stroke_on_table
meet-p-requires-clause-stroke_on_table c =
    let e = c.edge-e.result in
    let t : StrokeOnTable e = subst StrokeOnTable (sym c.edge-e.ensures) (edge_on_table c.requires.outline_on_table c.args.k c.requires.k_in_bounds) in
    let on : StrokeOnTable (stroke_from e.y1 e.x1 e.y2 e.x2) = record { x1 = t.y1; y1 = t.x1; x2 = t.y2; y2 = t.x2 } in
    search rules

pub returns : goal.returns
returns c =
    let l = c.args.l in
    let e = c.edge-e.result in
    let p = point_of c.meet-p.result in
    let met : Meets (left_side l.c) (stroke_from e.y1 e.x1 e.y2 e.x2) p = search rules in
    let met_level : Meets (limit_line l) (edge_of c.args.outline.now c.args.k) (record { X = p.Y; Y = p.X; W = p.W }) =
    subst (λ (e : Stroke). Meets (limit_line l) e (record { X = p.Y; Y = p.X; W = p.W })) c.edge-e.ensures (level_meets l e c.if-l-eq0.false met) in
    search rules
