-- The field is put behind the others.
use mathlib.Core.Path.{refl}
use borrow.Author.Rules.{rules}
use Rattle.replies.specs.Replies.{said}
use Rattle.replies.proofs.Fields.{one_more}
use Rattle.replies.proofs.Reply.field.Goals as goal

pub returns : goal.returns
unfolding said
returns c = record { count = refl; fields = one_more _ _ _ (search rules); behind = refl }
