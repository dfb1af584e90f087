-- The colours, the sample's top, words.
use Rattle.text.proofs.Puts.{put_then}
use Rattle.renter_art.specs.RenterArt.{group_start}
use Rattle.renter_art.proofs.put_start.Goals as goal

pub returns-clause-put : goal.returns-clause-put
unfolding group_start
returns-clause-put c = put_then (put_then c.put_look-a.ensures.put c.put_labelled-b.ensures.put) c.put.ensures
