-- Each number before this one is put.
use Rattle.std.proofs.Common.{◌≡◌, ◌+◌, ◌<◌, ℕ, pos, get_or}
use Rattle.lending.proofs.prepare.Given as goal

abbrev pub invariant-loop-i : goal.invariant-loop-i
invariant-loop-i l = (k : ℕ) → k < l.i → get_or l.lent k (pos 0) ≡ pos (7000000 + k)
