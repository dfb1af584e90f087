-- After k points the rectangle is the one that holds the first k.
use Rattle.std.proofs.Common.{◌+◌, ◌*◌, refl, w32, pos, get_or}
use Rattle.whole.proofs.Comparisons.{back}
use Rattle.view.specs.Views.{reach}
use Rattle.view.proofs.Views.{reach_on}
use Rattle.view.proofs.reach.Goals as goal

pub loop-k-init : goal.loop-k-init
unfolding reach
loop-k-init c = refl

pub loop-k-preserved : goal.loop-k-preserved
loop-k-preserved c =
    let xs = c.args.points.now in
    let x = back w32 (get_or xs (2 * c.loop-k.k) (pos 0)) c.around-arg-1.given in
    let y = back w32 (get_or xs (2 * c.loop-k.k + 1) (pos 0)) c.around-arg-in-loop-k-1.given in
    reach_on _ xs c.loop-k.k c.loop-k.invariant (simp (x, y) at c.around-r.ensures)
