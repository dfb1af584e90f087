-- `drawing::write_strokes` meets its contract: the numbers so far stand in the output, and those of the rest of the records are still to come.
use Rattle.std.proofs.Common.{sym, arith}
use Rattle.drawing.proofs.Computed.{computed, is_computed, by_computed}
use Rattle.drawing.proofs.Turns.{led}
use Rattle.drawing.proofs.Progress.{starts, finishes, never_fails, goes, draws}
use Rattle.drawing.proofs.write_strokes.Goals as goal

pub loop-to-init : goal.loop-to-init
loop-to-init c = simp c.fresh-pen.ensures (starts _ _ c.requires)

pub turn_at-requires : goal.turn_at-requires
turn_at-requires c = c.loop-to.invariant.small

pub returns-in-End : goal.returns-in-End
returns-in-End c = by_computed (finishes _ _ _ _ _ c.loop-to.invariant (sym (is_computed c.in-End.ensures)))

pub returns-in-Fault : goal.returns-in-Fault
returns-in-Fault c = absurd (never_fails _ _ _ _ _ c.loop-to.invariant (sym (is_computed c.in-Fault.ensures)))

pub loop-to-smaller-in-Goes : goal.loop-to-smaller-in-Goes
loop-to-smaller-in-Goes c = omega (arith, led computed c.args.bytes.now c.loop-to.at c.loop-to.pen (sym (is_computed c.in-Goes.ensures)))

pub loop-to-preserved-in-Goes : goal.loop-to-preserved-in-Goes
loop-to-preserved-in-Goes c = goes _ _ _ _ _ c.loop-to.invariant (sym (is_computed c.in-Goes.ensures))

pub overflow_mul-pen : goal.overflow_mul-pen
overflow_mul-pen c = omega (arith, (draws _ _ _ _ _ c.loop-to.invariant (sym (is_computed c.in-Draws.ensures))).0, c.loop-to.invariant.filled.same)

pub put_stroke-requires : goal.put_stroke-requires
put_stroke-requires c = (draws _ _ _ _ _ c.loop-to.invariant (sym (is_computed c.in-Draws.ensures))).0

pub loop-to-smaller : goal.loop-to-smaller
loop-to-smaller c = omega (arith, led computed c.args.bytes.now c.loop-to.at c.loop-to.pen (sym (is_computed c.in-Draws.ensures)))

pub loop-to-preserved : goal.loop-to-preserved
loop-to-preserved c = rw (c.put_stroke.ensures, c.drawn_stroke.ensures) (draws _ _ _ _ _ c.loop-to.invariant (sym (is_computed c.in-Draws.ensures))).1
