-- The words before the equals sign are the numbers of the line, where one stands there.
use Rattle.std.proofs.Common.{Some, ap, rules}
use Rattle.row_reading.proofs.Six.{six_are}
use Rattle.row_reading.proofs.Finding.{small_row, all_read, six_read}
use Rattle.row_reading.proofs.read_six.Goals as goal

pub returns-in_err-count : goal.returns-in_err-count
returns-in_err-count c k w row =
    let six = six_are _ _ _ k w c.requires.le_from row.line c.find-end.ensures.value (small_row k w row.slot row.good) c.find-end.ensures.upper_bound in
    absurd (all_read _ (search rules) (search rules) six c.in_err-count.ensures)

pub returns-then-count-ne6 : goal.returns-then-count-ne6
returns-then-count-ne6 c k w row =
    let six = six_are _ _ _ k w c.requires.le_from row.line c.find-end.ensures.value (small_row k w row.slot row.good) c.find-end.ensures.upper_bound in
    absurd (c.if-count-ne6.true (six_read c.read_integers.new.out (search rules) (search rules) six c.in_ok-count.ensures).0)

pub returns : goal.returns
returns c k w row =
    let six = six_are _ _ _ k w c.requires.le_from row.line c.find-end.ensures.value (small_row k w row.slot row.good) c.find-end.ensures.upper_bound in
    ap Some (six_read c.read_integers.new.out (search rules) (search rules) six c.in_ok-count.ensures).1
