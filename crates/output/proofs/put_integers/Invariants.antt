-- The numbers before this one are put.
use Rattle.output.proofs.Rows.{Rows}
use Rattle.output.proofs.put_integers.Given as goal

abbrev pub invariant-loop-number : goal.invariant-loop-number
invariant-loop-number l = Rows l.numbers l.initial.page l.page l.at l.end l.number-index
