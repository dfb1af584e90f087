-- The line asks for what was read.
use mathlib.Core.Path.{◌≡◌, sym, ap, ◌∙◌}
use native.Mathlib.Omega.{arith}
use lib.ListN.{length}
use Rattle.std.specs.Prelude.{None, Some}
use Rattle.words.specs.Words.{numeral, unsigned}
use Rattle.lending.proofs.Lists.{no_word, lent_front, part_length}
use Rattle.replies.specs.Replies.{to_call, to_none}
use Rattle.replies.proofs.Lines.{with_lent}
use Rattle.outline_commands.proofs.Orders.{no_order, list_behind}
use Rattle.outline_commands.proofs.outline.Goals as goal

pub returns-in_err-first-clause-outline_line : goal.returns-in_err-first-clause-outline_line
returns-in_err-first-clause-outline_line c =
    rw c.from_residual.ensures (to_none (λ x a. no_order c.args.rest.now x.order (no_word 0xffff_ffff c.args.rest.now c.in_err-first.ensures.parts) a.order))

pub returns-in_err-order-clause-outline_line : goal.returns-in_err-order-clause-outline_line
returns-in_err-order-clause-outline_line c =
    rw c.from_residual-in_err-order.ensures
    (to_none (λ x a. no_order c.args.rest.now x.order
    (sym (ap (λ w. unsigned 0xffff_ffff (numeral w)) c.in_ok-first.ensures.parts.0) ∙ sym c.read_order.ensures ∙ c.in_err-order.was) a.order))

pub returns-in_err-list-clause-outline_line : goal.returns-in_err-list-clause-outline_line
returns-in_err-list-clause-outline_line c =
    let read = list_behind c.args.rest.now c.in_ok-first.behind.now c.read_list.new.numbers None c.in_ok-first.ensures.parts.1 c.in_err-list.ensures.read_list in
    rw c.from_residual-in_err-list.ensures (to_none (λ x a. read x.list (rw c.read_list.auto.numbers a.list)))

pub returns-clause-outline_line : goal.returns-clause-outline_line
returns-clause-outline_line c =
    let list = c.in_ok-list.list in
    let read = list_behind c.args.rest.now c.in_ok-first.behind.now c.read_list.new.numbers (Some list) c.in_ok-first.ensures.parts.1 c.in_ok-list.ensures.read_list in
    let room : length c.clip-reply.new.lent ≡ list.room =
    c.clip-reply.auto.lent ∙ part_length list.room c.args.lent.now (omega (arith, c.in_ok-list.ensures.room_bound, c.requires)) in
    to_call _ (record {
      order = sym (ap (λ w. unsigned 0xffff_ffff (numeral w)) c.in_ok-first.ensures.parts.0) ∙ sym c.read_order.ensures ∙ c.in_ok-order.was;
      list = rw c.read_list.auto.numbers at read;
    })
    (with_lent (λ a h. lent_front _ _ room (rw c.first_window-w.ensures at h)) c.clip-reply.ensures.tells c.lent.ensures)
