-- The output is prepared, and the reply says the answer.
use mir.Facts.{to_z-of_z}
use borrow.Author.Rules.{rules}
use Rattle.replies.proofs.Fields.{next}
use Rattle.replies.proofs.Lines.{tells}
use Rattle.book_commands.proofs.list.Goals as goal

pub returns-clause-tells : goal.returns-clause-tells
returns-clause-tells c =
    let renter = to_z-of_z c.ranges.renter in
    tells c.list_strips-a.result
    (record {
      before = c.prepare.new.lent;
      same = search rules;
      prepared = c.prepare.ensures;
      call = rw renter at c.list_strips-a.ensures;
    })
    (next c.begin.ensures c.natural.ensures)
