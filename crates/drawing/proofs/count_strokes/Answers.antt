-- `drawing::count_strokes` meets its contract: the strokes so far and those of the rest of the records are together those of all.
use Rattle.std.proofs.Common.{sym, ap, ◌∙◌, arith, Err}
use Rattle.format.specs.Format.{head_size}
use Rattle.drawing.specs.Pen.{fresh}
use Rattle.drawing.proofs.Computed.{computed, is_computed, by_computed}
use Rattle.drawing.proofs.Turns.{led}
use Rattle.drawing.proofs.Walks.{rest, none_before, count_goes, count_draws, count_ends, count_fails}
use Rattle.drawing.proofs.count_strokes.Goals as goal

pub loop-to-init : goal.loop-to-init
loop-to-init c = (c.requires, simp c.fresh-pen.ensures (none_before (rest computed c.args.bytes.now c.args.window head_size fresh)))

pub returns-in-End : goal.returns-in-End
returns-in-End c =
    by_computed (count_ends computed c.args.bytes.now c.args.window c.loop-to.at c.loop-to.pen (sym (is_computed c.in-End.ensures)) ∙ c.loop-to.invariant.1)

pub returns-in-Fault : goal.returns-in-Fault
returns-in-Fault c =
    by_computed (ap Err c.faulty.ensures
    ∙ count_fails computed c.args.bytes.now c.args.window c.loop-to.at c.loop-to.pen (sym (is_computed c.in-Fault.ensures)) ∙ c.loop-to.invariant.1)

pub loop-to-smaller-in-Goes : goal.loop-to-smaller-in-Goes
loop-to-smaller-in-Goes c = omega (arith, led computed c.args.bytes.now c.loop-to.at c.loop-to.pen (sym (is_computed c.in-Goes.ensures)))

pub loop-to-preserved-in-Goes : goal.loop-to-preserved-in-Goes
loop-to-preserved-in-Goes c = (
  c.loop-to.invariant.0,
  count_goes computed c.args.bytes.now c.args.window c.loop-to.at c.loop-to.pen (sym (is_computed c.in-Goes.ensures)) ∙ c.loop-to.invariant.1,
)

pub loop-to-smaller : goal.loop-to-smaller
loop-to-smaller c = omega (arith, led computed c.args.bytes.now c.loop-to.at c.loop-to.pen (sym (is_computed c.in-Goes.ensures)))

pub loop-to-preserved : goal.loop-to-preserved
loop-to-preserved c = (
  c.loop-to.invariant.0,
  count_draws computed c.args.bytes.now c.args.window c.loop-to.at c.loop-to.pen (sym (is_computed c.in-Goes.ensures)) ∙ c.loop-to.invariant.1,
)
