-- The records of the lines before the place `from` stand in the page.
use native.Mathlib.Omega.{arith}
use Rattle.pen.proofs.Drawings.{going_start, too_long, going_on, stopped, ended}
use Rattle.pen.proofs.draw.Goals as goal

pub loop-from-init : goal.loop-from-init
loop-from-init c = (omega arith, omega arith, going_start _ _ c.requires.0)

pub returns-then-end-gt-MOST_TEXT : goal.returns-then-end-gt-MOST_TEXT
returns-then-end-gt-MOST_TEXT c = too_long c.loop-from.invariant.2 c.loop-from-test.true c.find-end.ensures.value (omega arith)

pub returns-in-Err : goal.returns-in-Err
returns-in-Err c =
    stopped c.loop-from.invariant.2 c.loop-from-test.true c.find-end.ensures.value (omega arith) c.in-Err.is c.take_line.auto.page
    c.take_line.ensures

pub loop-from-preserved : goal.loop-from-preserved
loop-from-preserved c = (
  omega arith,
  omega arith,
  going_on c.loop-from.invariant.2 c.loop-from-test.true c.find-end.ensures.value (omega arith) c.in-Ok.is c.take_line.ensures,
)

pub returns : goal.returns
returns c = ended c.loop-from.invariant.2 c.loop-from-test.false c.put_length.auto.page c.put_length.ensures
