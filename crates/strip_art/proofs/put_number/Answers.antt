-- The place, the size, the number, words.
use Rattle.text.proofs.Puts.{put_then}
use Rattle.strip_art.specs.StripArt.{strip_number}
use Rattle.strip_art.proofs.put_number.Goals as goal

pub returns-clause-put : goal.returns-clause-put
unfolding strip_number
returns-clause-put c =
    rw (← c.number_size-size.ensures)
    (put_then (put_then (put_then c.put_place-a.ensures.put c.put_labelled-b.ensures.put) c.put_labelled-c.ensures.put) c.put.ensures)
