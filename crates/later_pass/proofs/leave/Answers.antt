-- Each return is one case, by the test that led there.
use Rattle.std.proofs.Common.{◌≡◌, ◌+◌, List, sym, subst, rules}
use mathlib.Core.Path.{transport}
use lib.IntN.{ℤ}
use Rattle.grid.specs.Sides.{side_at}
use Rattle.limits.specs.Sides.{window_of}
use Rattle.limits.specs.Limits.{limit_line}
use Rattle.crossings.specs.Tags.{side_tag}
use Rattle.crossings.specs.Meetings.{Meeting}
use Rattle.memory.specs.Memory.{point_of}
use Rattle.memory.specs.Tagged.{tag_in, put_at}
use Rattle.remains.specs.Ends.{on_line, crosses}
use Rattle.later_pass.specs.Later.{Exited}
use Rattle.later_pass.proofs.leave.Goals as goal

pub returns-then-here : goal.returns-then-here
returns-then-here c =
    let a = c.args in
    let e = c.turn_along.ensures in
    transport (λ i. Exited (window_of a.numbers.now) a.outline.now (limit_line a.l) (side_at a.side) a.here a.m.now a.i (sym e.m_after i) (sym e.value i))
    (on_line c.if-here.true)

pub returns : goal.returns
returns c =
    let a = c.args in
    let w = window_of a.numbers.now in
    let m = a.m.now in
    let p = point_of c.crossing.result in
    let wrote : c.put.new.m ≡ put_at m (a.i + 1) p (side_tag (side_at a.side)) = search rules in
    let met : Meeting w a.outline.now (limit_line a.l) (tag_in m a.i) p = search rules in
    subst (λ (n : List ℤ). Exited w a.outline.now (limit_line a.l) (side_at a.side) a.here m a.i n (a.i + 2)) (sym wrote) (crosses c.if-here.false met)
