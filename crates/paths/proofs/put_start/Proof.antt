-- Words, the width, words.
use native.Mathlib.Omega.{arith}
use Rattle.text.proofs.Puts.{put_then}
use Rattle.paths.specs.Paths.{path_start}
use borrow.Author.Rules.{rules}
use Rattle.paths.proofs.put_start.Statement.{statement}
use Rattle.paths.proofs.put_start.Tie as tie

put-requires : tie.Need-put-a-requires
put-requires c κs = search rules

put-thousandths-requires : tie.Need-put_thousandths-b-requires
put-thousandths-requires c κs = search rules

put-requires-2 : tie.Need-put-requires
put-requires-2 c κs = search rules

same_length : tie.Need-shape_of-page
same_length c = search rules

returns : tie.Need-returns
unfolding path_start
returns c =
    let at₃ = c.before.before in
    let at₂ = at₃.before.before.before.before.before in
    let at₁ = at₂.before.before.before.before in
    let p = at₁.put-a.ensures in
    let q = at₂.put_thousandths-b.ensures in
    let r = at₃.put.ensures in
    (put_then (put_then p q.0) r, omega (arith, p.ends, q.1, r.ends))

pub put_start_spec : {M : Type 1} → statement M
put_start_spec =
    tie.close
    (tie.spec
    put-requires
    put-thousandths-requires
    put-requires-2
    same_length
    returns)
