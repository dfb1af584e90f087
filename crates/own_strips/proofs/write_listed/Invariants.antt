-- The rows of the slots before k stand in the output, those of the slots from k on are to come.
use Rattle.std.proofs.Common.{◌+◌, ◌*◌}
use Rattle.own_strips.specs.Rows.{Rows}
use Rattle.own_strips.proofs.write_listed.Given as goal

abbrev pub invariant-loop-k : goal.invariant-loop-k
invariant-loop-k l = Rows l.from l.book (5 * (l.from + l.k)) l.k l.at l.initial.out l.out
