-- `orders::read_release` meets its contract: two whole numbers follow and nothing more, or the first that fails shows it.
use Rattle.std.proofs.Common.{◌≡◌, rules}
use mir.Syntax.{w32}
use mir.Val.{to_z, of_z}
use Rattle.orders.specs.Orders.{release, no_release}
use Rattle.orders.proofs.Readings.{whole_at, no_whole, is_over, not_over}
use Rattle.orders.proofs.read_release.Goals as goal

pub returns-in_err-renter : goal.returns-in_err-renter
returns-in_err-renter c =
    rw c.from_residual.ensures (no_release c.requires.says (λ r k x. no_whole _ 1 c.requires.ends c.in_err-renter.ensures r x.by))

pub returns-in_err-slot : goal.returns-in_err-slot
returns-in_err-slot c =
    let by = whole_at _ 1 c.requires.ends c.in_ok-renter.ensures in
    rw c.from_residual-in_err-slot.ensures
    (no_release c.requires.says (λ r k x. no_whole _ 2 by.1 c.in_err-slot.ensures k x.which))

pub returns-then-not-over : goal.returns-then-not-over
returns-then-not-over c =
    let by = whole_at _ 1 c.requires.ends c.in_ok-renter.ensures in
    let which = whole_at _ 2 by.1 c.in_ok-slot.ensures in
    no_release c.requires.says (λ r k x. not_over _ 3 which.1 c.over.ensures c.if-not-over.true x.over)

pub returns : goal.returns
returns c =
    let by = whole_at _ 1 c.requires.ends c.in_ok-renter.ensures in
    let which = whole_at _ 2 by.1 c.in_ok-slot.ensures in
    let f : to_z w32 (of_z w32 c.in_ok-renter.renter) ≡ c.in_ok-renter.renter = search rules in
    let g : to_z w32 (of_z w32 c.in_ok-slot.slot) ≡ c.in_ok-slot.slot = search rules in
    rw (f, g)
    (release c.requires.says (record { by = by.0; which = which.0; over = is_over _ 3 which.1 c.over.ensures c.if-not-over.false }))
