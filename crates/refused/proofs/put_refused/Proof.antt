-- The title, and the refusal's words and meaning, one after another.
use Rattle.text.proofs.Puts.{put_then}
use Rattle.refused.specs.Refused.{refused_picture}
use borrow.Author.Rules.{rules}
use Rattle.refused.proofs.put_refused.Statement.{statement}
use Rattle.refused.proofs.put_refused.Tie as tie

put-title-requires : tie.Need-put_title-a-requires
put-title-requires c κs = search rules

put-requires : tie.Need-put-b-requires
put-requires c κs = search rules

put-refusal-requires : tie.Need-put_refusal-c-requires
put-refusal-requires c κs = search rules

put-requires-2 : tie.Need-put-d-requires
put-requires-2 c κs = search rules

put-meaning-requires : tie.Need-put_meaning-e-requires
put-meaning-requires c κs = search rules

put-requires-3 : tie.Need-put-requires
put-requires-3 c κs = search rules

same_length : tie.Need-shape_of-page
same_length c = search rules

returns : tie.Need-returns
unfolding refused_picture
returns c =
    let at₆ = c.before.before in
    let at₅ = at₆.before.before.before.before.before in
    let at₄ = at₅.before.before.before.before in
    let at₃ = at₄.before.before.before.before.before in
    let at₂ = at₃.before.before.before.before in
    let at₁ = at₂.before.before.before.before.before in
    let p = at₁.put_title-a.ensures in
    let q = at₂.put-b.ensures in
    let r = at₃.put_refusal-c.ensures in
    let s = at₄.put-d.ensures in
    let t = at₅.put_meaning-e.ensures in
    let u = at₆.put.ensures in
    put_then (put_then (put_then (put_then (put_then p.0 q) r.0) s) t.0) u

pub put_refused_spec : {M : Type 1} → statement M
put_refused_spec =
    tie.close
    (tie.spec
    put-title-requires
    put-requires
    put-refusal-requires
    put-requires-2
    put-meaning-requires
    put-requires-3
    same_length
    returns)
