-- All that stand before the last have met all behind them.
use Rattle.std.proofs.Common.{arith, refl}
use Rattle.racks.specs.Members.{any}
use Rattle.racks.proofs.Pairs.{fewer_met, crowd}
use Rattle.racks.proofs.crowded.Goals as goal

pub returns : goal.returns
unfolding any
returns c =
    crowd c.requires.2 c.requires.1 c.any_above.ensures refl
    (fewer_met c.loop-eight.invariant (λ p q k. let x = k.0 in let y = k.1 in (omega arith, x, y)))
