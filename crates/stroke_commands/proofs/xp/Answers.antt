-- The line asks for what was read.
use Rattle.replies.specs.Replies.{to_call}
use Rattle.replies.proofs.Lines.{tells}
use Rattle.stroke_commands.proofs.Pairs.{not_read}
use Rattle.stroke_commands.proofs.xp.Goals as goal

pub returns-in_err-window-clause-xp : goal.returns-in_err-window-clause-xp
returns-in_err-window-clause-xp c = rw c.from_residual.ensures (not_read c.args.rest.now c.in_err-window.ensures)

pub returns-clause-xp : goal.returns-clause-xp
returns-clause-xp c =
    to_call (record { window = c.in_ok-window.window; stroke = c.in_ok-window.stroke }) c.in_ok-window.ensures
    (tells {n = 13} c.cross_product.result c.cross_product.ensures c.clipped.ensures)
