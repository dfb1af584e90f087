-- No field changes.
use mathlib.Core.Path.{refl}
use Rattle.replies.specs.Replies.{said}
use Rattle.replies.proofs.Reply.lent.Goals as goal

pub returns : goal.returns
unfolding said
returns c = record { count = refl; fields = refl; behind = refl }
