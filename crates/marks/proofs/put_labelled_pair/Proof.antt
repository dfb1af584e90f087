-- The label with its number, and the other number after it.
use native.Mathlib.Omega.{arith}
use Rattle.text.proofs.Puts.{put_then}
use Rattle.marks.specs.Marks.{labelled_pair}
use borrow.Author.Rules.{rules}
use Rattle.marks.proofs.put_labelled_pair.Statement.{statement}
use Rattle.marks.proofs.put_labelled_pair.Tie as tie

put-labelled-requires : tie.Need-put_labelled-next-requires
put-labelled-requires c κs = search rules

put-count-requires : tie.Need-put_count-requires
put-count-requires c κs = search rules

same_length : tie.Need-shape_of-page
same_length c = search rules

returns : tie.Need-returns
unfolding labelled_pair
returns c =
    let p = c.before.before.before.before.before.before.put_labelled-next.ensures in
    let q = c.before.before.put_count.ensures in
    (put_then p.0 q.0, omega (arith, p.1, q.1))

pub put_labelled_pair_spec : {M : Type 1} → statement M
put_labelled_pair_spec =
    tie.close (tie.spec put-labelled-requires put-count-requires same_length returns)
