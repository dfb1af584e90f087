-- The size, the two counts, words.
use Rattle.text.proofs.Puts.{put_then}
use Rattle.sheet_art.specs.SheetArt.{sheet_head}
use Rattle.sheet_art.proofs.put_head.Goals as goal

pub returns-clause-put : goal.returns-clause-put
unfolding sheet_head
returns-clause-put c =
    let size = put_then c.put_size-a.ensures.put c.put_labelled-b.ensures.put in
    rw (← c.table-v.ensures) (put_then (put_then size c.put_labelled-c.ensures.put) c.put.ensures)
