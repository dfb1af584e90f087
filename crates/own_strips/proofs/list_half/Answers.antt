-- The refusals in their order, then the listing, for which there is room or is not.
use Rattle.std.proofs.Common.{ap, sym, ◌∙◌, arith}
use Rattle.std.proofs.lemmas.Option.{MatchOption-at_some, MatchOption-at_none}
use Rattle.std.proofs.lemmas.Result.{err_from_is_err_and}
use mir.Facts.{to_z-of_z}
use Rattle.grid.specs.Refusals.{room_refusal}
use Rattle.grid.proofs.Tested.{was_fine}
use Rattle.racks.proofs.Holding.{vacant_holds}
use Rattle.strip_book.specs.Renters.{is_renter}
use Rattle.strip_book.proofs.Booking.{there, named, no_value}
use Rattle.strip_book.proofs.Refusing.{book_long}
use Rattle.own_strips.proofs.Listing.{has_room, handed_on, begun, short, whole}
use Rattle.own_strips.proofs.Refusing.{refuses_renter, refuses_table}
use Rattle.own_strips.proofs.list_half.Goals as goal

pub returns-in_err-try_from : goal.returns-in_err-try_from
returns-in_err-try_from c =
    let p = err_from_is_err_and c.from_residual.result c.from_residual.ensures.1 in
    let unknown = sym (ap is_renter (to_z-of_z c.ranges.renter)) ∙ c.in_err-try_from.ensures.0 in
    handed_on c.args.renter c.args.book.now p.1 (p.2 ∙ c.in_err-try_from.ensures.1) (refuses_renter c.args.renter c.args.book.now unknown) (λ e. omega arith)

pub test_book-requires : goal.test_book-requires
test_book-requires c = vacant_holds

pub returns-in_err-ok_or : goal.returns-in_err-ok_or
returns-in_err-ok_or c =
    let p = err_from_is_err_and c.from_residual-in_err-ok_or.result c.from_residual-in_err-ok_or.ensures.1 in
    let none = c.in_err-ok_or.ensures.ok_part in
    handed_on c.args.renter c.args.book.now p.1 (p.2 ∙ no_value _ _ _ none c.in_err-ok_or.ensures.value ∙ c.refused.ensures)
    (refuses_table _ _ (there _ (named _ c.ranges.renter c.in_ok-try_from.ensures)) (MatchOption-at_none _ _ none c.test_book.ensures)) (λ e. omega arith)

pub test_room-requires-clause-book_len : goal.test_room-requires-clause-book_len
test_room-requires-clause-book_len c = book_long _ (MatchOption-at_some _ _ _ c.in_ok-ok_or.ensures.ok_part c.test_book.ensures).0

pub returns-in_err-test_room : goal.returns-in_err-test_room
returns-in_err-test_room c =
    let p = err_from_is_err_and c.from_residual-in_err-test_room.result c.from_residual-in_err-test_room.ensures.1 in
    let book = (MatchOption-at_some _ _ _ c.in_ok-ok_or.ensures.ok_part c.test_book.ensures).0 in
    let h = begun _ c.ranges.renter c.in_ok-try_from.ensures book c.first_slot-from.ensures in
    short h p.1 p.2 c.in_err-test_room.ensures

pub write_listed-requires-clause-book_len : goal.write_listed-requires-clause-book_len
write_listed-requires-clause-book_len c = book_long _ (MatchOption-at_some _ _ _ c.in_ok-ok_or.ensures.ok_part c.test_book.ensures).0

pub write_listed-requires-clause-book_in_bounds : goal.write_listed-requires-clause-book_in_bounds
write_listed-requires-clause-book_in_bounds c = has_room _ _ (was_fine (room_refusal _ _) c.in_ok-test_room.ensures)

pub returns : goal.returns
returns c =
    let book = (MatchOption-at_some _ _ _ c.in_ok-ok_or.ensures.ok_part c.test_book.ensures).0 in
    whole (begun _ c.ranges.renter c.in_ok-try_from.ensures book c.first_slot-from.ensures)
    c.in_ok-test_room.ensures c.write_listed.ensures.value c.write_listed.ensures.out_after
