-- The reply says the answer.
use mir.Syntax.{w32}
use mir.Facts.{to_z-of_z}
use borrow.Author.Rules.{rules}
use Rattle.replies.proofs.Fields.{next_signed}
use Rattle.replies.proofs.Lines.{tells}
use Rattle.book_commands.proofs.book.Goals as goal

pub returns-clause-tells : goal.returns-clause-tells
returns-clause-tells c =
    let renter = to_z-of_z c.ranges.renter in
    tells c.book_strip-a.result (rw renter at c.book_strip-a.ensures)
    (next_signed {z = c.book_strip-a.result.slot} w32 (search rules) c.begin.ensures c.integer.ensures)
