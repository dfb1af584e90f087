-- Each corner passed was left for one that comes before it, and the first comes before none of those.
use Rattle.std.proofs.Common.{◌-◌, subst, arith}
use Rattle.lowest.proofs.Downhill.{FellBack, back_first, back_on, back_no_more, back_round}
use Rattle.lowest.proofs.down_back.Goals as goal

pub loop-last-init : goal.loop-last-init
loop-last-init g c = record { inside = λ h. omega arith; fell = λ r t f. let count = t.count in back_first t.ring (omega arith) f }

pub loop-last-preserved : goal.loop-last-preserved
loop-last-preserved g c = record {
  inside = λ h. omega arith;
  fell = λ r t f.
      let told = t.told (c.loop-last.last - 1) c.loop-last.reached (omega arith) (c.loop-last.invariant.inside (omega arith)) _ c.before-in-loop-last.ensures in
      back_on t.ring (c.loop-last.invariant.fell r t f) (omega arith) (told.yes c.if-not-before.false);
}

pub returns-then-not-before : goal.returns-then-not-before
returns-then-not-before g c = λ r t f.
    let told = t.told (c.loop-last.last - 1) c.loop-last.reached (omega arith) (c.loop-last.invariant.inside (omega arith)) _ c.before-in-loop-last.ensures in
    back_no_more t.ring (c.loop-last.invariant.fell r t f) (told.no c.if-not-before.true)

pub returns : goal.returns
returns g c = λ r t f. back_round t.ring (subst (FellBack r c.loop-last.reached) (omega arith) (c.loop-last.invariant.fell r t f))
