-- After k rows the text is that of the first k, and each took at most 49 bytes.
use Rattle.std.proofs.Common.{arith}
use Rattle.text.proofs.Puts.{put_nothing}
use Rattle.dots.specs.Dots.{point_paths}
use Rattle.dots.proofs.Points.{points_on}
use Rattle.dots.proofs.put_points.Goals as goal

pub loop-k-init : goal.loop-k-init
unfolding point_paths
loop-k-init c = (omega arith, put_nothing _ (omega arith))

pub loop-k-preserved : goal.loop-k-preserved
loop-k-preserved c = (
  omega (arith, c.put_point-end.ensures.upper_bound),
  points_on _ _ _ c.loop-k.k c.loop-k.invariant.1 c.put_point-end.ensures.put,
)
