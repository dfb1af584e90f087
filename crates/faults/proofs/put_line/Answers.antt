-- Words, the number and words, one after another.
use Rattle.text.proofs.Puts.{put_then}
use Rattle.faults.specs.Words.{fault_text}
use Rattle.faults.proofs.put_line.Goals as goal

pub returns : goal.returns
unfolding fault_text
returns c = put_then (put_then c.put-a.ensures c.put_natural-b.ensures.put) c.put.ensures
