-- The output is prepared, and the reply says the answer.
use borrow.Author.Rules.{rules}
use Rattle.replies.proofs.Fields.{next}
use Rattle.replies.proofs.Lines.{tells}
use Rattle.outline_commands.proofs.clip.Goals as goal

pub returns-clause-tells : goal.returns-clause-tells
returns-clause-tells c =
    tells c.clip_outline-a.result
    (record {
      before = c.prepare.new.lent;
      same = search rules;
      prepared = c.prepare.ensures;
      call = c.clip_outline-a.ensures;
    })
    (next c.begin.ensures c.natural.ensures)
