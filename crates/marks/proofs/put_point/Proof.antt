-- Two numbers, one after the other, each as it was passed.
use mir.Facts.{to_z-of_z}
use native.Mathlib.Omega.{arith}
use Rattle.text.proofs.Puts.{put_then}
use Rattle.marks.specs.Marks.{point_mark}
use borrow.Author.Rules.{rules}
use Rattle.marks.proofs.put_point.Statement.{statement}
use Rattle.marks.proofs.put_point.Tie as tie

put-number-requires : tie.Need-put_number-next-requires
put-number-requires c κs = search rules

put-number-requires-2 : tie.Need-put_number-requires
put-number-requires-2 c κs = search rules

same_length : tie.Need-shape_of-page
same_length c = search rules

returns : tie.Need-returns
unfolding point_mark
returns c =
    let f = c.before.before.before.before.before.before.before.before.before.ranges in
    let p = c.before.before.before.before.before.before.put_number-next.ensures in
    let q = c.before.before.put_number.ensures in
    (put_then (simp (to_z-of_z f.x) at p.0) (simp (to_z-of_z f.y) at q.0), omega (arith, p.1, q.1))

pub put_point_spec : {M : Type 1} → statement M
put_point_spec = tie.close (tie.spec put-number-requires put-number-requires-2 same_length returns)
