-- What is left of the text gets shorter by a byte or more with each argument.
use Rattle.std.proofs.Common.{◌+◌, ◌≤◌, length}
use Rattle.reasons.proofs.count.Given as goal

abbrev pub invariant-loop-argument : goal.invariant-loop-argument
invariant-loop-argument l = l.place + length l.left ≤ length l.rest

abbrev pub decreases-loop-argument : goal.decreases-loop-argument
decreases-loop-argument l = length l.left
