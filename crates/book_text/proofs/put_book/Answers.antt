-- The first line, the lines of all slots and the last line, one after another.
use Rattle.std.proofs.Common.{ap, arith}
use lib.Seq.{take_all}
use Rattle.slots.specs.Slots.{slots_of}
use Rattle.slots.proofs.Places.{slots_count}
use Rattle.text.proofs.Puts.{put_then}
use Rattle.book_rows.specs.Rows.{rows_text}
use Rattle.book_text.specs.Texts.{book_text}
use Rattle.book_text.proofs.put_book.Goals as goal

pub returns : goal.returns
unfolding book_text
returns c =
    let zs = c.args.book.now in
    let all = ap (rows_text 0) (take_all 64 (slots_of zs) (omega (arith, slots_count zs))) in
    put_then (put_then c.put-a.ensures (rw all at c.put_rows-b.ensures.put)) c.put.ensures
