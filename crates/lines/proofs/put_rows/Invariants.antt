-- The lines of the first k rows have been put.
use Rattle.std.proofs.Common.{◌*◌}
use Rattle.lines.proofs.Rows.{Rows}
use Rattle.lines.proofs.put_rows.Given as goal

abbrev pub invariant-loop-k : goal.invariant-loop-k
invariant-loop-k l = Rows l.rows l.initial.page l.page l.at l.end (l.k * 5)
