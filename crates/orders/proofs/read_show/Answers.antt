-- `orders::read_show` meets its contract: the line is over after its first word, or not.
use Rattle.orders.specs.Orders.{show, no_show}
use Rattle.orders.proofs.Readings.{is_over, not_over}
use Rattle.orders.proofs.read_show.Goals as goal

pub returns-then-not-over : goal.returns-then-not-over
returns-then-not-over c = no_show c.requires.says (not_over _ 1 c.requires.ends c.over.ensures c.if-not-over.true)

pub returns : goal.returns
returns c = show c.requires.says (is_over _ 1 c.requires.ends c.over.ensures c.if-not-over.false)
