-- One corner more: each side is the lesser or the greater of what it was and the corner's number.
use Rattle.std.proofs.Common.{◌*◌, ◌+◌, arith}
use Rattle.std.proofs.lemmas.Int.{clamps, ints}
use Rattle.reach.proofs.Reaching.{round_more}
use Rattle.reach.proofs.widened.Goals as goal

pub loop-k-preserved : goal.loop-k-preserved
loop-k-preserved c =
    let i = c.loop-k.invariant in
    record {
      round =
          round_more i.round
          (omega (arith, ints), omega (arith, ints))
          (omega (arith, ints), omega (arith, ints))
          (omega (arith, ints), omega (arith, ints))
          (omega (arith, ints), omega (arith, ints));
      on_table = λ on given.
          let before = i.on_table on given in
          let x = on (2 * c.loop-k.k) (omega arith) in
          let y = on (2 * c.loop-k.k + 1) (omega arith) in
          record {
            left = omega (arith, ints, clamps);
            right = omega (arith, ints, clamps);
            bottom = omega (arith, ints, clamps);
            top = omega (arith, ints, clamps);
          };
    }
