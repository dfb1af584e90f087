-- The two measures, and the shapes.
use native.Mathlib.Omega.{arith}
use Rattle.text.proofs.Puts.{put_then}
use Rattle.ruler.specs.Rulers.{bar}
use borrow.Author.Rules.{rules}
use Rattle.ruler.proofs.put_bar.Statement.{statement}
use Rattle.ruler.proofs.put_bar.Tie as tie

put-labelled-pair-requires : tie.Need-put_labelled_pair-a-requires
put-labelled-pair-requires c κs = search rules

put-requires : tie.Need-put-b-requires
put-requires c κs = search rules

put-requires-2 : tie.Need-put-requires
put-requires-2 c κs = search rules

same_length : tie.Need-shape_of-page
same_length c = search rules

returns : tie.Need-returns
unfolding bar
returns c =
    let at₃ = c.before.before in
    let at₂ = at₃.before.before.before.before.before in
    let at₁ = at₂.before.before.before.before.before in
    let p = at₁.put_labelled_pair-a.ensures in
    let q = at₂.put-b.ensures in
    let r = at₃.put.ensures in
    (put_then (put_then p.0 q) r, omega (arith, p.1, q.ends, r.ends))

pub put_bar_spec : {M : Type 1} → statement M
put_bar_spec =
    tie.close
    (tie.spec
    put-labelled-pair-requires
    put-requires
    put-requires-2
    same_length
    returns)
