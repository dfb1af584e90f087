-- The corners before i have moved, and those from i on are as they were.
use Rattle.std.proofs.Common.{◌≡◌, ℕ, ◌+◌, ◌<◌, ◌≤◌}
use Rattle.memory.specs.Tagged.{corner_in}
use Rattle.memory.proofs.move_down.Given as goal

abbrev pub invariant-loop-i : goal.invariant-loop-i
invariant-loop-i l =
    ((j : ℕ) → j < l.at → corner_in l.m j ≡ corner_in l.fn.m j)
    × ((j : ℕ) → l.from + j < l.i → corner_in l.m (l.at + j) ≡ corner_in l.fn.m (l.from + j))
    × ((j : ℕ) → l.i ≤ j → corner_in l.m j ≡ corner_in l.fn.m j)
