-- There is no room for it, or its numbers follow its first byte.
use Rattle.pen_line.specs.Workers.{long}
use Rattle.pen_line.proofs.Records.{recorded, not_recorded}
use Rattle.pen_line.proofs.put_record.Goals as goal

pub returns-then-page-next : goal.returns-then-page-next
returns-then-page-next c = long c.if-page-next.true

pub returns-then-put_numbers : goal.returns-then-put_numbers
returns-then-put_numbers c = recorded c.if-page-next.false c.if-put_numbers.true c.put_numbers.ensures

pub returns : goal.returns
returns c = not_recorded c.if-page-next.false c.if-put_numbers.false c.put_numbers.ensures
