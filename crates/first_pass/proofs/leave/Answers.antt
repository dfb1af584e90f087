-- Each return is one case, by the test that led there.
use Rattle.std.proofs.Common.{◌≡◌, ◌+◌, List, sym, subst, rules}
use mathlib.Core.Path.{transport}
use lib.IntN.{ℤ}
use Rattle.grid.specs.Sides.{side_at}
use Rattle.limits.specs.Limits.{limit_line}
use Rattle.crossings.specs.Tags.{edge_of, side_tag}
use Rattle.crossings.specs.Meetings.{Meets}
use Rattle.memory.specs.Memory.{point_of}
use Rattle.memory.specs.Tagged.{put_at}
use Rattle.remains.specs.Ends.{Went, on_line, crosses}
use Rattle.first_pass.proofs.leave.Goals as goal

pub returns-then-here : goal.returns-then-here
returns-then-here c =
    let a = c.args in
    let e = c.turn_along.ensures in
    transport (λ i. Went (Meets (limit_line a.l) (edge_of a.outline.now a.k)) (side_at a.side) a.here a.m.now a.i (sym e.m_after i) (sym e.value i))
    (on_line c.if-here.true)

pub returns : goal.returns
returns c =
    let a = c.args in
    let wrote : c.put.new.m ≡ put_at a.m.now (a.i + 1) (point_of c.edge_crossing.result) (side_tag (side_at a.side)) = search rules in
    subst (λ (n : List ℤ). Went (Meets (limit_line a.l) (edge_of a.outline.now a.k)) (side_at a.side) a.here a.m.now a.i n (a.i + 2)) (sym wrote)
    (crosses c.if-here.false c.edge_crossing.ensures)
