-- The field is that of bits.
use Rattle.replies.specs.Replies.{field_of}
use Rattle.replies.proofs.Reply.bits.Goals as goal

pub returns : goal.returns
unfolding field_of
returns c = c.field.ensures
