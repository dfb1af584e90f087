-- The tests say whether the head or the window is at fault; else the records decide.
use Rattle.std.proofs.Common.{sym, ap, ◌∙◌, Err}
use borrow.Author.Tests.{eq-eqb, ne_eqb}
use Rattle.intake.specs.declared.WindowMm.{WindowMm}
use Rattle.format.proofs.Heads.{whole_head}
use Rattle.drawing.specs.Drawings.{meaning, windowed, surveyed}
use Rattle.drawing.proofs.Computed.{computed, is_computed, by_computed, window_opens, window_fails}
use Rattle.drawing.proofs.survey.Goals as goal

pub returns-then-head_fault-ne-HEAD_SIZE : goal.returns-then-head_fault-ne-HEAD_SIZE
unfolding meaning
returns-then-head_fault-ne-HEAD_SIZE c = by_computed (ap Err c.faulty.ensures ∙ simp (← c.head_fault.ensures, ne_eqb _ _ c.if-head_fault-ne-HEAD_SIZE.true))

pub window_at-requires : goal.window_at-requires
window_at-requires c = (whole_head _ (sym c.head_fault.ensures ∙ c.if-head_fault-ne-HEAD_SIZE.false)).0

pub count_strokes-requires : goal.count_strokes-requires
count_strokes-requires c = (whole_head _ (sym c.head_fault.ensures ∙ c.if-head_fault-ne-HEAD_SIZE.false)).1

pub returns-in-Ok : goal.returns-in-Ok
unfolding meaning
returns-in-Ok c =
    let opens = window_opens c.args.bytes.now c.in-Ok.ensures in
    by_computed (is_computed c.count_strokes.ensures
    ∙ simp (eq-eqb _ _ (sym c.head_fault.ensures ∙ c.if-head_fault-ne-HEAD_SIZE.false)) (ap surveyed (sym opens) ∙ ap (λ (w : WindowMm). surveyed (windowed computed c.args.bytes.now (computed.window w))) c.window_at.ensures))

pub returns-in-Err : goal.returns-in-Err
unfolding meaning
returns-in-Err c =
    let fails = window_fails c.args.bytes.now c.in-Err.ensures in
    by_computed (ap Err c.faulty-in-Err.ensures
    ∙ simp (eq-eqb _ _ (sym c.head_fault.ensures ∙ c.if-head_fault-ne-HEAD_SIZE.false)) (ap surveyed (sym fails) ∙ ap (λ (w : WindowMm). surveyed (windowed computed c.args.bytes.now (computed.window w))) c.window_at.ensures))
