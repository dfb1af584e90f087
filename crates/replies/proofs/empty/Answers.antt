-- The first 0 fields are none.
use mathlib.Core.Path.{refl}
use Rattle.replies.specs.Replies.{said, first_fields}
use Rattle.replies.proofs.empty.Goals as goal

pub returns : goal.returns
unfolding said first_fields
returns c = record { count = refl; fields = refl; behind = refl }
