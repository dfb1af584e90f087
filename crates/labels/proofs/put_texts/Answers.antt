-- After k strokes the text is that of the first k, and each took at most 132 bytes.
use Rattle.std.proofs.Common.{arith}
use Rattle.text.proofs.Puts.{put_nothing}
use Rattle.labels.specs.Labels.{label_texts}
use Rattle.labels.proofs.Texts.{texts_on}
use Rattle.labels.proofs.put_texts.Goals as goal

pub loop-k-init : goal.loop-k-init
unfolding label_texts
loop-k-init c = (omega arith, put_nothing _ (omega arith))

pub loop-k-preserved : goal.loop-k-preserved
loop-k-preserved c = (
  omega (arith, c.put_label-end.ensures.upper_bound),
  texts_on _ _ c.loop-k.k c.loop-k.invariant.1 c.put_label-end.ensures.put,
)
