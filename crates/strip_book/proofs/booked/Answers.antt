-- The refusals in their order, and then the lowest free slot of the renter's half.
use Rattle.std.proofs.Common.{ap, sym, ◌∙◌, arith}
use Rattle.std.proofs.lemmas.Option.{MatchOption-at_some, MatchOption-at_none}
use Rattle.std.proofs.lemmas.Result.{err_from_is_err_and}
use mir.Facts.{to_z-of_z}
use Rattle.grid.specs.Refusals.{window_refusal}
use Rattle.grid.proofs.Calls.{lent_refused}
use Rattle.grid.proofs.Refusals.{window_on_table}
use Rattle.grid.proofs.Tested.{was_fine, was_refused}
use Rattle.racks.proofs.Holding.{vacant_holds}
use Rattle.strip_book.specs.Renters.{is_renter}
use Rattle.strip_book.proofs.Booking.{looked, there, named, no_value, handed_on, full, within, taken, entered}
use Rattle.strip_book.proofs.Refusing.{book_long, refuses_renter, refuses_table, refuses_window}
use Rattle.strip_book.proofs.booked.Goals as goal

pub returns-in_err-try_from : goal.returns-in_err-try_from
returns-in_err-try_from c =
    let p = err_from_is_err_and c.from_residual.result c.from_residual.ensures.1 in
    let unknown = sym (ap is_renter (to_z-of_z c.ranges.renter)) ∙ c.in_err-try_from.ensures.0 in
    handed_on p.1 (p.2 ∙ c.in_err-try_from.ensures.1) (refuses_renter c.args.renter c.args.w c.args.book.now unknown) (λ e. omega arith)

pub test_book-requires : goal.test_book-requires
test_book-requires c = vacant_holds

pub returns-in_err-n : goal.returns-in_err-n
returns-in_err-n c =
    let p = err_from_is_err_and c.from_residual-in_err-n.result c.from_residual-in_err-n.ensures.1 in
    let known = there _ (named _ c.ranges.renter c.in_ok-try_from.ensures) in
    let none = c.in_err-n.ensures.ok_part in
    handed_on p.1 (p.2 ∙ no_value _ _ _ none c.in_err-n.ensures.value ∙ c.refused.ensures)
    (refuses_table c.args.renter c.args.w c.args.book.now known (MatchOption-at_none _ _ none c.test_book.ensures)) (λ e. omega arith)

pub returns-in_err-test_window : goal.returns-in_err-test_window
returns-in_err-test_window c =
    let p = err_from_is_err_and c.from_residual-in_err-test_window.result c.from_residual-in_err-test_window.ensures.1 in
    let known = there _ (named _ c.ranges.renter c.in_ok-try_from.ensures) in
    let book = MatchOption-at_some _ _ _ c.in_ok-n.ensures.ok_part c.test_book.ensures in
    let bad = was_refused (window_refusal c.args.w) c.in_err-test_window.ensures in
    handed_on p.1 (p.2 ∙ bad.0) (refuses_window _ _ _ known book.0 bad.1) bad.1

pub lowest_free-k-requires-clause-book_len : goal.lowest_free-k-requires-clause-book_len
lowest_free-k-requires-clause-book_len c =
    let book = MatchOption-at_some _ _ _ c.in_ok-n.ensures.ok_part c.test_book.ensures in
    book_long _ book.0

pub returns-then-k-to : goal.returns-then-k-to
returns-then-k-to c =
    let book = MatchOption-at_some _ _ _ c.in_ok-n.ensures.ok_part c.test_book.ensures in
    let fine = was_fine (window_refusal c.args.w) c.in_ok-test_window.ensures in
    let h = looked _ c.ranges.renter c.in_ok-try_from.ensures book.0 fine c.first_slot-from.ensures c.lowest_free-k.ensures in
    rw c.refused-then-k-to.ensures (lent_refused (full h c.if-k-to.true) (λ e. omega arith))

pub shares-requires-clause-window_on_table : goal.shares-requires-clause-window_on_table
shares-requires-clause-window_on_table c =
    window_on_table _ (was_fine (window_refusal c.args.w) c.in_ok-test_window.ensures)

pub returns-then-shares : goal.returns-then-shares
returns-then-shares c =
    let book = MatchOption-at_some _ _ _ c.in_ok-n.ensures.ok_part c.test_book.ensures in
    let fine = was_fine (window_refusal c.args.w) c.in_ok-test_window.ensures in
    let h = looked _ c.ranges.renter c.in_ok-try_from.ensures book.0 fine c.first_slot-from.ensures c.lowest_free-k.ensures in
    let shared = sym (c.shares.ensures _ book.1.count book.1.holds) ∙ c.if-shares.true in
    rw c.refused-then-shares.ensures (lent_refused (taken h c.if-k-to.false shared) (λ e. omega arith))

pub put-requires : goal.put-requires
put-requires c =
    let book = MatchOption-at_some _ _ _ c.in_ok-n.ensures.ok_part c.test_book.ensures in
    let fine = was_fine (window_refusal c.args.w) c.in_ok-test_window.ensures in
    let h = looked _ c.ranges.renter c.in_ok-try_from.ensures book.0 fine c.first_slot-from.ensures c.lowest_free-k.ensures in
    (within h c.if-k-to.false).2

pub overflow_cast-result : goal.overflow_cast-result
overflow_cast-result c =
    let book = MatchOption-at_some _ _ _ c.in_ok-n.ensures.ok_part c.test_book.ensures in
    let fine = was_fine (window_refusal c.args.w) c.in_ok-test_window.ensures in
    let h = looked _ c.ranges.renter c.in_ok-try_from.ensures book.0 fine c.first_slot-from.ensures c.lowest_free-k.ensures in
    record { sfits = omega (arith, (within h c.if-k-to.false).1) }

pub returns : goal.returns
returns c =
    let book = MatchOption-at_some _ _ _ c.in_ok-n.ensures.ok_part c.test_book.ensures in
    let fine = was_fine (window_refusal c.args.w) c.in_ok-test_window.ensures in
    let h = looked _ c.ranges.renter c.in_ok-try_from.ensures book.0 fine c.first_slot-from.ensures c.lowest_free-k.ensures in
    entered h c.if-k-to.false (sym (c.shares.ensures _ book.1.count book.1.holds) ∙ c.if-shares.false) c.put.ensures
