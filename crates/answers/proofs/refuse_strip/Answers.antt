-- The number, the place, the strip and the meaning, one after another.
use Rattle.std.proofs.Common.{refl}
use Rattle.text.proofs.Puts.{put_then}
use Rattle.answers.specs.Answers.{strip_refusal_text}
use Rattle.answers.proofs.Answering.{put_answers}
use Rattle.answers.proofs.refuse_strip.Goals as goal

pub returns : goal.returns
unfolding strip_refusal_text
returns c =
    let numbers = put_then c.put_count-a.ensures.put c.put_count-b.ensures.put in
    put_answers _ (put_then (put_then numbers c.put_strip-c.ensures.put) c.put_meaning-end.ensures) refl
