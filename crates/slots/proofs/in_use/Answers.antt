-- The mark is read and compared with 1.
use Rattle.std.proofs.Common.{arith}
use Rattle.slots.proofs.Marks.{use_test}
use Rattle.slots.proofs.in_use.Goals as goal

pub returns : goal.returns
returns c = use_test c.args.book.now c.args.k c.requires.book_len c.requires.k_bound (omega arith)
