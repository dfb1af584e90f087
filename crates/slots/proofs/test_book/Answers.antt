-- Its length, each slot by itself, and then the pairs of strips on the rack decide.
use Rattle.std.proofs.Common.{subst}
use Rattle.racks.specs.Pairs.{Crowd}
use Rattle.slots.proofs.Testing.{too_long, not_each, crowded_book, good_book}
use Rattle.slots.proofs.test_book.Goals as goal

pub returns-then-book-ne320 : goal.returns-then-book-ne320
returns-then-book-ne320 c = too_long _ c.if-book-ne320.true

pub returns-in_err-n : goal.returns-in_err-n
returns-in_err-n c = rw c.from_residual.ensures (not_each c.args.book.now c.if-book-ne320.false c.in_err-n.ensures)

pub returns-then-crowded : goal.returns-then-crowded
returns-then-crowded c =
    crowded_book c.args.book.now c.if-book-ne320.false c.in_ok-n.ensures (subst (Crowd _ _) c.if-crowded.true c.crowded.ensures)

pub returns : goal.returns
returns c = good_book c.args.book.now c.if-book-ne320.false c.in_ok-n.ensures (subst (Crowd _ _) c.if-crowded.false c.crowded.ensures)
