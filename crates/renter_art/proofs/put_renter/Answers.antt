-- The start, the strips, words.
use Rattle.text.proofs.Puts.{put_then}
use Rattle.renter_art.specs.RenterArt.{renter_art}
use Rattle.renter_art.proofs.put_renter.Goals as goal

pub returns-clause-put : goal.returns-clause-put
unfolding renter_art
returns-clause-put c = put_then (put_then c.put_start-a.ensures.put c.put_slots-b.ensures.put) c.put.ensures
