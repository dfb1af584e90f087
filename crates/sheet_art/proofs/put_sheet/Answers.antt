-- The head, the table and the foot, with the counts of both renters.
use Rattle.text.proofs.Puts.{put_then}
use Rattle.sheet_art.specs.SheetArt.{sheet}
use Rattle.sheet_art.proofs.put_sheet.Goals as goal

pub returns : goal.returns
unfolding sheet
returns c =
    rw (← c.count_strips-n.ensures, ← c.count_strips-m.ensures)
    (put_then (put_then c.put_head-a.ensures.put c.put_glass-b.ensures.put) c.put_foot.ensures)
