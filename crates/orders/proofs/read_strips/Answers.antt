-- `orders::read_strips` meets its contract: the renter follows and nothing more, or the one or the other fails.
use Rattle.std.proofs.Common.{◌≡◌, rules}
use mir.Syntax.{w32}
use mir.Val.{to_z, of_z}
use Rattle.orders.specs.Orders.{strips, no_strips}
use Rattle.orders.proofs.Readings.{whole_at, no_whole, is_over, not_over}
use Rattle.orders.proofs.read_strips.Goals as goal

pub returns-in_err-renter : goal.returns-in_err-renter
returns-in_err-renter c =
    rw c.from_residual.ensures (no_strips c.requires.says (λ r x. no_whole _ 1 c.requires.ends c.in_err-renter.ensures r x.by))

pub returns-then-not-over : goal.returns-then-not-over
returns-then-not-over c =
    let by = whole_at _ 1 c.requires.ends c.in_ok-renter.ensures in
    no_strips c.requires.says (λ r x. not_over _ 2 by.1 c.over.ensures c.if-not-over.true x.over)

pub returns : goal.returns
returns c =
    let by = whole_at _ 1 c.requires.ends c.in_ok-renter.ensures in
    let f : to_z w32 (of_z w32 c.in_ok-renter.renter) ≡ c.in_ok-renter.renter = search rules in
    rw f
    (strips c.requires.says (record { by = by.0; over = is_over _ 2 by.1 c.over.ensures c.if-not-over.false }))
