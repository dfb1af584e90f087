-- The line asks for what was read.
use Rattle.replies.specs.Replies.{to_call}
use Rattle.replies.proofs.Fields.{after, next}
use Rattle.replies.proofs.Lines.{tells}
use Rattle.stroke_commands.specs.Lines.{with_sides}
use Rattle.stroke_commands.proofs.Pairs.{not_read}
use Rattle.stroke_commands.proofs.cs.Goals as goal

pub returns-in_err-window-clause-cs : goal.returns-in_err-window-clause-cs
returns-in_err-window-clause-cs c = rw c.from_residual.ensures (not_read c.args.rest.now c.in_err-window.ensures)

pub returns-clause-cs : goal.returns-clause-cs
returns-clause-cs c =
    let a = c.cohen_sutherland-counted.result.answer in
    to_call (record { window = c.in_ok-window.window; stroke = c.in_ok-window.stroke }) c.in_ok-window.ensures
    (tells c.cohen_sutherland-counted.result c.cohen_sutherland-counted.ensures
    (after 2 (λ fs. with_sides fs a.side0 a.side1) (next c.answered.ensures c.natural-reply.ensures) c.sides.ensures))
