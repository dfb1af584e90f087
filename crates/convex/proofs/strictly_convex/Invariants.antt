-- Every turn so far goes left, and the changes are counted.
use Rattle.std.proofs.Common.{◌*◌}
use Rattle.convex.proofs.Walking.{Walked}
use Rattle.convex.proofs.strictly_convex.Given as goal

abbrev pub invariant-loop-k : goal.invariant-loop-k
invariant-loop-k l = Walked l.c l.edge l.changes (2 * l.k)
