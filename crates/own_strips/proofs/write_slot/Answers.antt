-- By its mark the slot is free, or its row is put behind the numbers that are written.
use Rattle.std.proofs.Common.{arith}
use Rattle.own_strips.proofs.Rows.{row_free, row_room, row_used}
use Rattle.own_strips.proofs.write_slot.Goals as goal

pub returns-then-book-p-ne1 : goal.returns-then-book-p-ne1
returns-then-book-p-ne1 c from lent r = row_free r c.requires.book_len (omega arith) (omega arith) c.if-book-p-ne1.true

pub put_at-requires : goal.put_at-requires
put_at-requires c = row_room c.requires.by_index.2 c.requires.book_len (omega arith) (omega arith) c.if-book-p-ne1.false c.strip_at.ensures

pub returns : goal.returns
returns c from lent r =
    rw c.put_at.ensures (row_used r c.requires.book_len (omega arith) (omega arith) c.if-book-p-ne1.false c.strip_at.ensures)
