-- What is left to write gets shorter, and is no longer than all of it.
use Rattle.std.proofs.Common.{◌≤◌, length}
use Rattle.streams.proofs.write_to.Given as goal

abbrev pub invariant-loop-left : goal.invariant-loop-left
invariant-loop-left g l = length l.left ≤ length l.bytes

abbrev pub decreases-loop-left : goal.decreases-loop-left
decreases-loop-left g l = length l.left
