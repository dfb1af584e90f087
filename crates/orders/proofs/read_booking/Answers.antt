-- `orders::read_booking` meets its contract: a whole number and four lengths follow and nothing more, or the first that fails shows it.
use Rattle.std.proofs.Common.{◌≡◌, rules}
use mir.Syntax.{w32}
use mir.Val.{to_z, of_z}
use Rattle.orders.specs.Orders.{book, no_book}
use Rattle.orders.proofs.Readings.{whole_at, no_whole, length_at, no_length, is_over, not_over}
use Rattle.orders.proofs.read_booking.Goals as goal

pub returns-in_err-renter : goal.returns-in_err-renter
returns-in_err-renter c =
    rw c.from_residual.ensures (no_book c.requires.says (λ r s x. no_whole _ 1 c.requires.ends c.in_err-renter.ensures r x.by))

pub returns-in_err-left : goal.returns-in_err-left
returns-in_err-left c =
    let by = whole_at _ 1 c.requires.ends c.in_ok-renter.ensures in
    rw c.from_residual-in_err-left.ensures
    (no_book c.requires.says (λ r s x. no_length _ 2 by.1 c.in_err-left.ensures s.left x.left))

pub returns-in_err-bottom : goal.returns-in_err-bottom
returns-in_err-bottom c =
    let by = whole_at _ 1 c.requires.ends c.in_ok-renter.ensures in
    let left = length_at _ 2 by.1 c.in_ok-left.ensures in
    rw c.from_residual-in_err-bottom.ensures
    (no_book c.requires.says (λ r s x. no_length _ 3 left.1 c.in_err-bottom.ensures s.bottom x.bottom))

pub returns-in_err-right : goal.returns-in_err-right
returns-in_err-right c =
    let by = whole_at _ 1 c.requires.ends c.in_ok-renter.ensures in
    let left = length_at _ 2 by.1 c.in_ok-left.ensures in
    let bottom = length_at _ 3 left.1 c.in_ok-bottom.ensures in
    rw c.from_residual-in_err-right.ensures
    (no_book c.requires.says (λ r s x. no_length _ 4 bottom.1 c.in_err-right.ensures s.right x.right))

pub returns-in_err-top : goal.returns-in_err-top
returns-in_err-top c =
    let by = whole_at _ 1 c.requires.ends c.in_ok-renter.ensures in
    let left = length_at _ 2 by.1 c.in_ok-left.ensures in
    let bottom = length_at _ 3 left.1 c.in_ok-bottom.ensures in
    let right = length_at _ 4 bottom.1 c.in_ok-right.ensures in
    rw c.from_residual-in_err-top.ensures
    (no_book c.requires.says (λ r s x. no_length _ 5 right.1 c.in_err-top.ensures s.top x.top))

pub returns-then-not-over : goal.returns-then-not-over
returns-then-not-over c =
    let by = whole_at _ 1 c.requires.ends c.in_ok-renter.ensures in
    let left = length_at _ 2 by.1 c.in_ok-left.ensures in
    let bottom = length_at _ 3 left.1 c.in_ok-bottom.ensures in
    let right = length_at _ 4 bottom.1 c.in_ok-right.ensures in
    let top = length_at _ 5 right.1 c.in_ok-top.ensures in
    no_book c.requires.says (λ r s x. not_over _ 6 top.1 c.over.ensures c.if-not-over.true x.over)

pub returns : goal.returns
returns c =
    let by = whole_at _ 1 c.requires.ends c.in_ok-renter.ensures in
    let left = length_at _ 2 by.1 c.in_ok-left.ensures in
    let bottom = length_at _ 3 left.1 c.in_ok-bottom.ensures in
    let right = length_at _ 4 bottom.1 c.in_ok-right.ensures in
    let top = length_at _ 5 right.1 c.in_ok-top.ensures in
    let f : to_z w32 (of_z w32 c.in_ok-renter.renter) ≡ c.in_ok-renter.renter = search rules in
    rw f (book c.requires.says
    (record {
      by = by.0;
      left = left.0;
      bottom = bottom.0;
      right = right.0;
      top = top.0;
      over = is_over _ 6 top.1 c.over.ensures c.if-not-over.false;
    }))
