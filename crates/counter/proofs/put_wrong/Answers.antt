-- The question mark, the words and the end of the line, one after another.
use Rattle.text.proofs.Puts.{put_then}
use Rattle.counter.specs.Serving.{wrong_text}
use Rattle.counter.proofs.put_wrong.Goals as goal

pub returns : goal.returns
unfolding wrong_text
returns c = put_then (put_then c.put-a.ensures c.put_fault-b.ensures.put) c.put.ensures
