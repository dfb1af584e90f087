-- The output is prepared, and the reply says the answer of the call that is asked for.
use borrow.Author.Rules.{rules}
use Rattle.replies.proofs.Fields.{next}
use Rattle.replies.proofs.Lines.{tells}
use Rattle.batch_commands.proofs.cut.Goals as goal

pub returns-clause-tells : goal.returns-clause-tells
returns-clause-tells c =
    tells c.call-a.result
    (record {
      before = c.prepare.new.lent;
      same = search rules;
      prepared = c.prepare.ensures;
      call = c.call-a.ensures;
    })
    (next c.begin.ensures c.natural.ensures)
