-- Words and the refusal's line, one after another.
use native.Mathlib.Omega.{arith}
use Rattle.text.proofs.Puts.{put_then}
use Rattle.refused.specs.Refused.{refused_title}
use borrow.Author.Rules.{rules}
use Rattle.refused.proofs.put_title.Statement.{statement}
use Rattle.refused.proofs.put_title.Tie as tie

put-requires : tie.Need-put-a-requires
put-requires c κs = search rules

put-line-requires : tie.Need-put_line-b-requires
put-line-requires c κs = search rules

put-requires-2 : tie.Need-put-requires
put-requires-2 c κs = search rules

same_length : tie.Need-shape_of-page
same_length c = search rules

returns : tie.Need-returns
unfolding refused_title
returns c =
    let at₃ = c.before.before in
    let at₂ = at₃.before.before.before.before.before in
    let at₁ = at₂.before.before.before.before in
    let p = at₁.put-a.ensures in
    let q = at₂.put_line-b.ensures in
    let r = at₃.put.ensures in
    (put_then (put_then p q.0) r, omega (arith, p.ends, q.1, r.ends))

pub put_title_spec : {M : Type 1} → statement M
put_title_spec =
    tie.close
    (tie.spec
    put-requires
    put-line-requires
    put-requires-2
    same_length
    returns)
