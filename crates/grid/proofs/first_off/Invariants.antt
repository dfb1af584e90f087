-- The loop has passed i numbers on the table, and the first that is off is i further than the first of the rest.
use Rattle.std.proofs.Common.{◌≡◌, ◌+◌, drop}
use Rattle.grid.specs.Table.{first_off}
use Rattle.grid.proofs.first_off.Given as goal

abbrev pub invariant-loop-i : goal.invariant-loop-i
invariant-loop-i l = first_off l.s ≡ l.i + first_off (drop l.i l.s)
