-- After k strokes the text is that of the first k, and each took at most 49 bytes.
use Rattle.std.proofs.Common.{arith}
use Rattle.text.proofs.Puts.{put_nothing}
use Rattle.paths.specs.Paths.{stroke_paths}
use Rattle.paths.proofs.Strokes.{strokes_on}
use Rattle.paths.proofs.put_strokes.Goals as goal

pub loop-k-init : goal.loop-k-init
unfolding stroke_paths
loop-k-init c = (omega arith, put_nothing _ (omega arith))

pub loop-k-preserved : goal.loop-k-preserved
loop-k-preserved c = (
  omega (arith, c.put_stroke-end.ensures.upper_bound),
  strokes_on _ _ c.loop-k.k c.loop-k.invariant.1 c.put_stroke-end.ensures.put,
)
