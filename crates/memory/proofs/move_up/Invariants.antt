-- The corners from i on have moved, and those up to i are as they were.
use Rattle.std.proofs.Common.{◌≡◌, ℕ, ◌+◌, ◌<◌, ◌≤◌}
use Rattle.memory.specs.Tagged.{corner_in}
use Rattle.memory.proofs.move_up.Given as goal

abbrev pub invariant-loop-i : goal.invariant-loop-i
invariant-loop-i l =
    (l.from ≤ l.i) × ((k : ℕ) → k ≤ l.i → corner_in l.m k ≡ corner_in l.fn.m k)
    × ((k : ℕ) → l.i ≤ k → k < l.to → corner_in l.m (k + 1) ≡ corner_in l.fn.m k)
