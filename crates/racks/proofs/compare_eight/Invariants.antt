-- The first e lanes have met.
use Rattle.std.proofs.Common.{◌≡◌, ◌+◌, ◌≤◌, ◌<◌, ℕ, length}
use Rattle.racks.specs.Pairs.{Compares}
use Rattle.racks.proofs.compare_eight.Given as goal

-- the pairs of the first e lanes
abbrev pub Lanes : ℕ → ℕ → ℕ → ℕ → ℕ → Type 0
Lanes i j e p q = (i ≤ p) × (p < i + e) × (q + i ≡ j + p)

abbrev pub invariant-loop-e : goal.invariant-loop-e
invariant-loop-e l = record { long : length l.found ≡ 8; met : Compares l.rack (Lanes l.i l.j l.e) l.initial.found l.found }
