-- The line asks for what was read.
use mathlib.Core.Path.{◌≡◌, ◌∙◌}
use native.Mathlib.Omega.{arith}
use lib.ListN.{length}
use Rattle.lending.proofs.Lists.{lent_front, part_length}
use Rattle.replies.specs.Replies.{to_call, to_none}
use Rattle.replies.proofs.Lines.{with_lent}
use Rattle.batch_commands.proofs.listed.Goals as goal

pub returns-in_err-list-clause-batch_line : goal.returns-in_err-list-clause-batch_line
returns-in_err-list-clause-batch_line c = rw c.from_residual.ensures (to_none (λ x a. c.in_err-list.ensures.read_list x (rw c.read_list.auto.numbers a)))

pub returns-clause-batch_line : goal.returns-clause-batch_line
returns-clause-batch_line c =
    let list = c.in_ok-list.list in
    let room : length c.cut-reply.new.lent ≡ list.room =
    c.cut-reply.auto.lent ∙ part_length list.room c.args.lent.now (omega (arith, c.in_ok-list.ensures.room_bound, c.requires.in_bounds)) in
    to_call _ (rw c.read_list.auto.numbers at c.in_ok-list.ensures.read_list)
    (with_lent (λ a h. lent_front _ _ room (rw c.first_window-w.ensures at h)) c.cut-reply.ensures.tells c.lent.ensures)
