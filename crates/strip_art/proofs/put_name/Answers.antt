-- The renter, the slot, words.
use Rattle.text.proofs.Puts.{put_then}
use Rattle.strip_art.specs.StripArt.{strip_name}
use Rattle.strip_art.proofs.put_name.Goals as goal

pub returns-clause-put : goal.returns-clause-put
unfolding strip_name
returns-clause-put c = put_then (put_then c.put_labelled-a.ensures.put c.put_labelled-b.ensures.put) c.put.ensures
