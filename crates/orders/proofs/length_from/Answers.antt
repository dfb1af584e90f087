-- `orders::length_from` meets its contract: the next word is a number or none.
use Rattle.orders.proofs.Readings.{length_is, length_bad}
use Rattle.orders.proofs.length_from.Goals as goal

pub returns-in_err-bits : goal.returns-in_err-bits
returns-in_err-bits c = rw c.from_residual.ensures (length_bad _ _ c.next_word-start.ensures c.in_err-bits.ensures)

pub returns : goal.returns
returns c = length_is _ _ c.next_word-start.ensures c.in_ok-bits.ensures c.from_bits.ensures
