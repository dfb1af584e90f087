-- The label, and the number after it.
use native.Mathlib.Omega.{arith}
use Rattle.text.proofs.Puts.{put_then}
use Rattle.marks.specs.Marks.{labelled}
use borrow.Author.Rules.{rules}
use Rattle.marks.proofs.put_labelled.Statement.{statement}
use Rattle.marks.proofs.put_labelled.Tie as tie

put-requires : tie.Need-put-next-requires
put-requires c κs = search rules

put-count-requires : tie.Need-put_count-requires
put-count-requires c κs = search rules

same_length : tie.Need-shape_of-page
same_length c = search rules

returns : tie.Need-returns
unfolding labelled
returns c =
    let p = c.before.before.before.before.before.before.put-next.ensures in
    let q = c.before.before.put_count.ensures in
    (put_then p q.0, omega (arith, p.ends, q.1))

pub put_labelled_spec : {M : Type 1} → statement M
put_labelled_spec = tie.close (tie.spec put-requires put-count-requires same_length returns)
