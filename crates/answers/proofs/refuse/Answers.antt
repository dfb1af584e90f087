-- The number, the place and the meaning, one after another.
use Rattle.std.proofs.Common.{refl}
use Rattle.text.proofs.Puts.{put_then}
use Rattle.answers.specs.Answers.{refusal_text}
use Rattle.answers.proofs.Answering.{put_answers}
use Rattle.answers.proofs.refuse.Goals as goal

pub returns : goal.returns
unfolding refusal_text
returns c = put_answers _ (put_then (put_then c.put_count-a.ensures.put c.put_natural-b.ensures.put) c.put_meaning-end.ensures) refl
