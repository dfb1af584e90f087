-- Words and the corner, and two measures, one after another.
use Rattle.std.proofs.Common.{◌≡◌, rules}
use mir.Syntax.{w32}
use mir.Val.{to_z, of_z}
use Rattle.text.proofs.Puts.{put_then}
use Rattle.strip_art.specs.StripArt.{number_place}
use Rattle.strip_art.proofs.put_place.Goals as goal

pub returns-clause-put : goal.returns-clause-put
unfolding number_place
returns-clause-put c =
    let left : to_z w32 (of_z w32 c.args.w.left) ≡ c.args.w.left = search rules in
    let bottom : to_z w32 (of_z w32 c.args.w.bottom) ≡ c.args.w.bottom = search rules in
    let corner = simp (left, bottom) at c.put_point-b.ensures.put in
    rw (← c.width-wide.ensures.value, ← c.height-high.ensures.value)
    (put_then (put_then (put_then c.put-a.ensures corner) c.put_labelled-c.ensures.put) c.put_labelled.ensures.put)
