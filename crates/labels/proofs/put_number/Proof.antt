-- Two labelled numbers, the number on its side, and words.
use native.Mathlib.Omega.{arith}
use Rattle.text.proofs.Puts.{put_then}
use Rattle.labels.specs.Labels.{number_text}
use borrow.Author.Rules.{rules}
use Rattle.labels.proofs.put_number.Statement.{statement}
use Rattle.labels.proofs.put_number.Tie as tie

put-labelled-requires : tie.Need-put_labelled-a-requires
put-labelled-requires c κs = search rules

put-labelled-requires-2 : tie.Need-put_labelled-b-requires
put-labelled-requires-2 c κs = search rules

put-beside-requires : tie.Need-put_beside-c-requires
put-beside-requires c κs = search rules

put-requires : tie.Need-put-requires
put-requires c κs = search rules

same_length : tie.Need-shape_of-page
same_length c = search rules

returns : tie.Need-returns
unfolding number_text
returns c =
    let at₄ = c.before.before in
    let at₃ = at₄.before.before.before.before.before in
    let at₂ = at₃.before.before.before.before in
    let at₁ = at₂.before.before.before.before.before in
    let p = at₁.put_labelled-a.ensures in
    let q = at₂.put_labelled-b.ensures in
    let r = at₃.put_beside-c.ensures in
    let s = at₄.put.ensures in
    (put_then (put_then (put_then p.0 q.0) r.0) s, omega (arith, p.1, q.1, r.1, s.ends))

pub put_number_spec : {M : Type 1} → statement M
put_number_spec =
    tie.close
    (tie.spec
    put-labelled-requires
    put-labelled-requires-2
    put-beside-requires
    put-requires
    same_length
    returns)
