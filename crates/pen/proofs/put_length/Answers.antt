-- A drawing has a strip, or there is nothing to count.
use Rattle.std.proofs.Common.{arith}
use Rattle.text.proofs.Puts.{put_to}
use Rattle.pen.specs.Workers.{counted, none}
use Rattle.pen.proofs.put_length.Goals as goal

pub returns-then-at-eq4 : goal.returns-then-at-eq4
returns-then-at-eq4 c = none c.if-at-eq4.true

pub returns : goal.returns
returns c = counted c.if-at-eq4.false (put_to 4 (omega (arith, c.put_bytes.ensures.ends)) c.put_bytes.ensures)
