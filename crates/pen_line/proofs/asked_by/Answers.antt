-- Each comparison that succeeds shows the word.
use Rattle.pen_line.specs.Lines.{strip, move, line, close}
use Rattle.pen_line.specs.Workers.{unknown}
use Rattle.pen_line.proofs.Words.{same, other, asks_none}
use Rattle.pen_line.proofs.asked_by.Goals as goal

pub returns-then-same : goal.returns-then-same
returns-then-same c = same c.same.ensures c.if-same.true strip

pub returns-then-same-2 : goal.returns-then-same-2
returns-then-same-2 c = same c.same-else-same.ensures c.if-same-2.true move

pub returns-then-same-3 : goal.returns-then-same-3
returns-then-same-3 c = same c.same-else-same-2.ensures c.if-same-3.true line

pub returns-then-same-4 : goal.returns-then-same-4
returns-then-same-4 c = same c.same-else-same-3.ensures c.if-same-4.true close

pub returns-else-same-4 : goal.returns-else-same-4
returns-else-same-4 c =
    unknown (λ b n. asks_none
    (other c.same.ensures c.if-same.false)
    (other c.same-else-same.ensures c.if-same-2.false)
    (other c.same-else-same-2.ensures c.if-same-3.false)
    (other c.same-else-same-3.ensures c.if-same-4.false))
