-- The colon, the sentence and the end of the line, one after another.
use Rattle.text.proofs.Puts.{put_then}
use Rattle.answers.specs.Answers.{meaning_text}
use Rattle.answers.proofs.put_meaning.Goals as goal

pub returns : goal.returns
unfolding meaning_text
returns c = put_then (put_then c.put-a.ensures c.put_meaning-b.ensures.put) c.put.ensures
