-- The refusals in their order, and then five zeros.
use Rattle.std.proofs.Common.{ap, sym, ◌∙◌, arith}
use Rattle.std.proofs.lemmas.Option.{MatchOption-at_some, MatchOption-at_none}
use Rattle.std.proofs.lemmas.Result.{err_from_is_err_and}
use mir.Facts.{to_z-of_z}
use Rattle.racks.proofs.Holding.{vacant_holds}
use Rattle.strip_book.specs.Renters.{is_renter}
use Rattle.strip_book.proofs.Booking.{there, named, no_value}
use Rattle.strip_book.proofs.Refusing.{book_long, refuses_releaser, refuses_release, refuses_slot}
use Rattle.strip_book.proofs.Releasing.{told, handed_on, within, freed}
use Rattle.strip_book.proofs.released.Goals as goal

pub returns-in_err-renter : goal.returns-in_err-renter
returns-in_err-renter c =
    let p = err_from_is_err_and c.from_residual.result c.from_residual.ensures.1 in
    let unknown = sym (ap is_renter (to_z-of_z c.ranges.renter)) ∙ c.in_err-renter.ensures.0 in
    handed_on p.1 (p.2 ∙ c.in_err-renter.ensures.1) (refuses_releaser c.args.renter c.args.slot c.args.book.now unknown) (λ e. omega arith)

pub test_book-requires : goal.test_book-requires
test_book-requires c = vacant_holds

pub returns-in_err-ok_or : goal.returns-in_err-ok_or
returns-in_err-ok_or c =
    let p = err_from_is_err_and c.from_residual-in_err-ok_or.result c.from_residual-in_err-ok_or.ensures.1 in
    let none = c.in_err-ok_or.ensures.ok_part in
    handed_on p.1 (p.2 ∙ no_value _ _ _ none c.in_err-ok_or.ensures.value ∙ c.refused.ensures)
    (refuses_release _ _ _ (there _ (named _ c.ranges.renter c.in_ok-renter.ensures)) (MatchOption-at_none _ _ none c.test_book.ensures)) (λ e. omega arith)

pub used_slot-requires : goal.used_slot-requires
used_slot-requires c = book_long _ (MatchOption-at_some _ _ _ c.in_ok-ok_or.ensures.ok_part c.test_book.ensures).0

pub returns-in_err-k : goal.returns-in_err-k
returns-in_err-k c =
    let p = err_from_is_err_and c.from_residual-in_err-k.result c.from_residual-in_err-k.ensures.1 in
    let name = named _ c.ranges.renter c.in_ok-renter.ensures in
    let book = (MatchOption-at_some _ _ _ c.in_ok-ok_or.ensures.ok_part c.test_book.ensures).0 in
    let none = c.in_err-k.ensures.ok_part in
    let found = told _ c.args.book.now c.used_slot.result name (to_z-of_z c.ranges.slot) c.used_slot.ensures in
    handed_on p.1 (p.2 ∙ no_value _ _ _ none c.in_err-k.ensures.value ∙ c.refused-2.ensures)
    (refuses_slot _ _ _ (there _ name) book (MatchOption-at_none _ _ none found)) (λ e. omega arith)

pub put-requires : goal.put-requires
put-requires c =
    let name = named _ c.ranges.renter c.in_ok-renter.ensures in
    let book = (MatchOption-at_some _ _ _ c.in_ok-ok_or.ensures.ok_part c.test_book.ensures).0 in
    let found = told _ c.args.book.now c.used_slot.result name (to_z-of_z c.ranges.slot) c.used_slot.ensures in
    let slot = MatchOption-at_some _ _ _ c.in_ok-k.ensures.ok_part found in
    within c.args.renter c.args.slot c.args.book.now (there _ name) book slot.1 slot.2

pub returns : goal.returns
returns c =
    let name = named _ c.ranges.renter c.in_ok-renter.ensures in
    let book = (MatchOption-at_some _ _ _ c.in_ok-ok_or.ensures.ok_part c.test_book.ensures).0 in
    let found = told _ c.args.book.now c.used_slot.result name (to_z-of_z c.ranges.slot) c.used_slot.ensures in
    let slot = MatchOption-at_some _ _ _ c.in_ok-k.ensures.ok_part found in
    freed c.args.renter c.args.slot c.args.book.now (there _ name) book slot.1 slot.2 slot.0 c.put.ensures
