-- While no number was off, the first that is off the table is so much further than the first of the rest.
use Rattle.std.proofs.Common.{◌≡◌, true, ◌+◌, drop}
use Rattle.grid.specs.Table.{first_off}
use Rattle.grid.proofs.all_on.Given as goal

abbrev pub invariant-loop-x : goal.invariant-loop-x
invariant-loop-x l = l.on ≡ true → first_off l.s ≡ l.x-index + first_off (drop l.x-index l.s)
