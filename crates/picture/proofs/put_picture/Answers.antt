-- The parts of the picture, one after another, for the view that was found.
use Rattle.text.proofs.Puts.{put_then}
use Rattle.picture.specs.Pictures.{picture}
use Rattle.picture.proofs.put_picture.Goals as goal

pub returns : goal.returns
unfolding picture
returns c =
    rw (← c.reach-v.ensures)
    (put_then (put_then (put_then c.put_frame-a.ensures.put c.put_placed-b.ensures.put) c.put_artwork-c.ensures.put) c.put_caption.ensures)
