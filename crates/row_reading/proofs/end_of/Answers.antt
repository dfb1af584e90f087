-- The line is made anew, and compared with what stands at the place.
use Rattle.std.proofs.Common.{arith}
use Rattle.row_reading.proofs.Finding.{stands, stands_not}
use Rattle.row_reading.proofs.end_of.Goals as goal

pub returns-then-not-starts_with : goal.returns-then-not-starts_with
returns-then-not-starts_with c =
    stands_not c.args.text.now c.args.from c.starts_with.ensures.value c.put_row-count.ensures.put.text c.if-not-starts_with.true

pub returns : goal.returns
returns c =
    let made = c.put_row-count.ensures.put in
    (stands c.args.text.now c.args.from c.starts_with.ensures.value made.text c.if-not-starts_with.false, omega (arith, made.ends))
