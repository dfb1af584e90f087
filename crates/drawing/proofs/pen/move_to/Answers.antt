-- The intake says where the pen goes, or that one of the two numbers is refused.
use Rattle.std.proofs.Common.{ℕ, true, sym, arith}
use Rattle.intake.specs.declared.Point.{Point}
use Rattle.intake.proofs.Places.{point_refused}
use Rattle.drawing.specs.Pen.{after}
use Rattle.drawing.specs.declared.pen.Pen.{Pen}
use Rattle.drawing.specs.declared.pen.Turn.{Turn}
use Rattle.drawing.proofs.Computed.{by_computed, point_lands, point_fails}
use Rattle.drawing.proofs.pen.move_to.Goals as goal

abbrev goes : Pen → ℕ → Point → Turn
goes pen next p = Turn.Goes (record { moved = true; here = p; start = p; strokes = pen.strokes }) next

pub overflow_mul-result : goal.overflow_mul-result
overflow_mul-result c = omega (arith, (point_refused c.in-Err.ensures).1)

pub overflow_add-result-in-Err : goal.overflow_add-result-in-Err
overflow_add-result-in-Err c = omega (arith, (point_refused c.in-Err.ensures).1)

pub returns-in-Ok : goal.returns-in-Ok
unfolding after
returns-in-Ok c = by_computed (sym (point_lands c.args.at (goes c.args.pen c.args.next) c.in-Ok.ensures))

pub returns-in-Err : goal.returns-in-Err
unfolding after
returns-in-Err c = by_computed (sym (point_fails c.args.at (goes c.args.pen c.args.next) c.in-Err.ensures))
