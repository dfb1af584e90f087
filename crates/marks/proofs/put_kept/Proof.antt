-- Two labelled numbers, one after the other.
use native.Mathlib.Omega.{arith}
use Rattle.text.proofs.Puts.{put_then}
use Rattle.marks.specs.Marks.{kept_mark}
use borrow.Author.Rules.{rules}
use Rattle.marks.proofs.put_kept.Statement.{statement}
use Rattle.marks.proofs.put_kept.Tie as tie

put-labelled-requires : tie.Need-put_labelled-next-requires
put-labelled-requires c κs = search rules

put-labelled-requires-2 : tie.Need-put_labelled-requires
put-labelled-requires-2 c κs = search rules

same_length : tie.Need-shape_of-page
same_length c = search rules

returns : tie.Need-returns
unfolding kept_mark
returns c =
    let p = c.before.before.before.before.before.before.before.put_labelled-next.ensures in
    let q = c.before.before.put_labelled.ensures in
    (put_then p.0 q.0, omega (arith, p.1, q.1))

pub put_kept_spec : {M : Type 1} → statement M
put_kept_spec =
    tie.close
    (tie.spec
    put-labelled-requires
    put-labelled-requires-2
    same_length
    returns)
