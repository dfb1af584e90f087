-- `orders::read_words` meets its contract: the first word says who reads the rest.
use Rattle.std.proofs.Common.{subst}
use Rattle.pen_line.proofs.Words.{word_is, no_word, some_word}
use Rattle.orders.specs.Orders.{blank, unknown, Unknown}
use Rattle.orders.proofs.read_words.Goals as goal

pub returns-then-end-start : goal.returns-then-end-start
returns-then-end-start c = blank (no_word _ 0 c.next_word-start.ensures.starts c.next_word-start.ensures.ends c.if-end-start.true)

pub returns-in-None : goal.returns-in-None
returns-in-None c =
    let n = c.next_word-start.ensures in
    unknown (some_word _ 0 n.starts n.ends n.within c.if-end-start.false) (subst Unknown (word_is _ 0 n.starts n.ends) c.in-None.ensures)
