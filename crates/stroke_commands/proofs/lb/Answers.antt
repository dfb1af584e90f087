-- The line asks for what was read.
use Rattle.replies.specs.Replies.{to_call}
use Rattle.replies.proofs.Lines.{tells}
use Rattle.stroke_commands.proofs.Pairs.{not_read}
use Rattle.stroke_commands.proofs.lb.Goals as goal

pub returns-in_err-window-clause-lb : goal.returns-in_err-window-clause-lb
returns-in_err-window-clause-lb c = rw c.from_residual.ensures (not_read c.args.rest.now c.in_err-window.ensures)

pub returns-clause-lb : goal.returns-clause-lb
returns-clause-lb c =
    to_call (record { window = c.in_ok-window.window; stroke = c.in_ok-window.stroke }) c.in_ok-window.ensures
    (tells {n = 13} c.liang_barsky.result c.liang_barsky.ensures c.clipped.ensures)
