-- The place, the table, the two renters, words.
use Rattle.text.proofs.Puts.{put_then}
use Rattle.sheet_art.specs.SheetArt.{glass}
use Rattle.sheet_art.proofs.put_glass.Goals as goal

pub returns-clause-put : goal.returns-clause-put
unfolding glass
returns-clause-put c =
    let placed = put_then c.put_placed-a.ensures.put c.put_strip-b.ensures.put in
    let renters = put_then (put_then placed c.put_renter-c.ensures.put) c.put_renter-d.ensures.put in
    rw (← c.table-v.ensures, ← c.extent-e.ensures.value) (put_then renters c.put.ensures)
