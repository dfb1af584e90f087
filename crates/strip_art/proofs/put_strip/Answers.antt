-- The name, the way round and the number, with words between.
use Rattle.text.proofs.Puts.{put_then}
use Rattle.strip_art.specs.StripArt.{strip_art}
use Rattle.strip_art.proofs.put_strip.Goals as goal

pub returns-clause-put : goal.returns-clause-put
unfolding strip_art
returns-clause-put c =
    put_then
    (put_then (put_then (put_then c.put_name-a.ensures.put c.put-b.ensures) c.put_round-c.ensures.put) c.put-d.ensures)
    c.put_number.ensures.put
