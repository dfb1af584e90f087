-- The field is the plain one.
use Rattle.replies.specs.Replies.{field_of}
use Rattle.replies.proofs.Reply.natural.Goals as goal

pub returns : goal.returns
unfolding field_of
returns c = c.field.ensures
