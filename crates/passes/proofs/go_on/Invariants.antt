-- The passes so far have left a ring to go on from.
use Rattle.std.proofs.Common.{◌≡◌, length, take}
use Rattle.limits.specs.Sides.{window_of}
use Rattle.passes.specs.Passes.{Running}
use Rattle.passes.proofs.go_on.Given as goal

abbrev pub invariant-loop-j : goal.invariant-loop-j
invariant-loop-j l = (length l.counts ≡ 4) × Running (window_of l.numbers) l.order l.outline l.m l.p l.j (take l.j l.counts)
