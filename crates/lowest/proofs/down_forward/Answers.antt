-- Each corner passed was left for one that comes before it.
use Rattle.std.proofs.Common.{◌<◌, length, arith}
use Rattle.lowest.proofs.Downhill.{falls_first, falls_on, falls_no_more}
use Rattle.lowest.proofs.down_forward.Goals as goal

pub loop-next-init : goal.loop-next-init
loop-next-init g c = record { behind = omega arith; fell = λ r t. falls_first t.ring }

pub loop-next-preserved : goal.loop-next-preserved
loop-next-preserved g c = record {
  behind = omega arith;
  fell = λ r t.
      let l = c.loop-next.invariant in
      let behind = l.behind in
      let count = t.count in
      let told = t.told c.loop-next.next c.loop-next.reached (omega arith) (omega arith) _ c.before-in-loop-next.ensures in
      falls_on t.ring behind (l.fell r t) (omega arith) (told.yes c.if-not-before.false);
}

pub returns-then-not-before : goal.returns-then-not-before
returns-then-not-before g c = λ r t.
    let l = c.loop-next.invariant in
    let behind = l.behind in
    let told = t.told c.loop-next.next c.loop-next.reached (omega arith) (omega arith) _ c.before-in-loop-next.ensures in
    falls_no_more t.ring behind (l.fell r t) (λ _. told.no c.if-not-before.true)

pub returns : goal.returns
returns g c = λ r t.
    let l = c.loop-next.invariant in
    let count = t.count in
    falls_no_more t.ring l.behind (l.fell r t) (λ (h : c.loop-next.next < length r) _. absurd (omega arith))
