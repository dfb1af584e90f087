-- The numbers, the equals sign, the lengths and their unit, one after another.
use Rattle.text.proofs.Puts.{put_then}
use Rattle.strip_lines.specs.Lines.{strip_text}
use Rattle.strip_lines.proofs.put_strip.Goals as goal

pub returns-clause-put : goal.returns-clause-put
unfolding strip_text
returns-clause-put c = put_then (put_then (put_then c.put_sides-a.ensures.put c.put-b.ensures) c.put_lengths-c.ensures.put) c.put.ensures
