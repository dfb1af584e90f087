-- i numbers stand in the page, and the last of them ends at the place `end`.
use Rattle.std.proofs.Common.{arith}
use Rattle.pen_line.specs.Workers.{not_all}
use Rattle.pen_line.proofs.Numbers.{begun_start, begun_on, stops, over}
use Rattle.pen_line.proofs.put_numbers.Goals as goal

pub loop-i-init : goal.loop-i-init
loop-i-init c = (omega arith, begun_start _ _ _ _ (omega arith))

pub returns-in_default : goal.returns-in_default
returns-in_default c = not_all (stops c.loop-i.invariant.1 c.skip-start.ensures.value c.find-end.ensures.value c.loop-i-test.true c.in_default.ensures)

pub loop-i-preserved : goal.loop-i-preserved
loop-i-preserved c = (c.find-end.ensures.upper_bound, begun_on c.loop-i.invariant.1 c.skip-start.ensures.value c.find-end.ensures.value c.in-Some.ensures c.put_bytes.ensures)

pub returns : goal.returns
returns c = over c.loop-i.invariant.1 c.skip.ensures.value (omega arith)
