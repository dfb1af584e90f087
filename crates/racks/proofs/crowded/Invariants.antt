-- The strips before the eight that are at hand have met all behind them.
use Rattle.std.proofs.Common.{◌*◌, ◌<◌, ℕ}
use Rattle.racks.specs.Pairs.{Compares}
use Rattle.racks.proofs.crowded.Given as goal

abbrev pub invariant-loop-eight : goal.invariant-loop-eight
invariant-loop-eight l = Compares l.rack (λ (p q : ℕ). (p < 8 * l.eight) × (p < q) × (q < l.n)) l.initial.most l.most
