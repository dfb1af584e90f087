-- The place, the ruler and the legend, with words round it.
use Rattle.text.proofs.Puts.{put_then}
use Rattle.sheet_art.specs.SheetArt.{sheet_foot}
use Rattle.sheet_art.proofs.put_foot.Goals as goal

pub returns : goal.returns
unfolding sheet_foot
returns c =
    let ruled = put_then (put_then c.put_caption_place-a.ensures.put c.put_ruler-b.ensures.put) c.put-c.ensures in
    rw (← c.table-v.ensures, ← c.extent-e.ensures.value) (put_then (put_then ruled c.put_legend-d.ensures.put) c.put.ensures)
