-- The output is prepared, and the reply says the answer.
use borrow.Author.Rules.{rules}
use Rattle.replies.specs.Replies.{with_window}
use Rattle.replies.proofs.Fields.{after, next}
use Rattle.replies.proofs.Lines.{tells}
use Rattle.drawing_commands.proofs.read.Goals as goal

pub returns-clause-tells : goal.returns-clause-tells
returns-clause-tells c =
    let a = c.read_drawing-a.result in
    tells a
    (record {
      before = c.prepare.new.lent;
      same = search rules;
      prepared = c.prepare.ensures;
      call = c.read_drawing-a.ensures;
    })
    (next (after 4 (λ fs. with_window fs a.window) c.begin.ensures c.window.ensures) c.natural.ensures)
