-- Words, the height, the renter, the count, the word.
use native.Mathlib.Omega.{arith}
use Rattle.text.proofs.Puts.{put_then}
use Rattle.legend.specs.Legends.{legend_line}
use borrow.Author.Rules.{rules}
use Rattle.legend.proofs.put_line.Statement.{statement}
use Rattle.legend.proofs.put_line.Tie as tie

put-requires : tie.Need-put-a-requires
put-requires c κs = search rules

mul-put-thousandths : tie.Need-overflow_mul-renter
mul-put-thousandths c = search rules

add-put-thousandths : tie.Need-overflow_add-renter
add-put-thousandths c = search rules

put-thousandths-requires : tie.Need-put_thousandths-b-requires
put-thousandths-requires c κs = search rules

put-labelled-requires : tie.Need-put_labelled-c-requires
put-labelled-requires c κs = search rules

put-labelled-requires-2 : tie.Need-put_labelled-d-requires
put-labelled-requires-2 c κs = search rules

put-word-requires : tie.Need-put_word-requires
put-word-requires c κs = search rules

same_length : tie.Need-shape_of-page
same_length c = search rules

returns : tie.Need-returns
unfolding legend_line
returns c =
    let at₅ = c.before.before in
    let at₄ = at₅.before.before.before.before in
    let at₃ = at₄.before.before.before.before.before in
    let at₂ = at₃.before.before.before.before.before in
    let at₁ = at₂.before.before.before.before in
    let p = at₁.put-a.ensures in
    let q = at₂.put_thousandths-b.ensures in
    let r = at₃.put_labelled-c.ensures in
    let s = at₄.put_labelled-d.ensures in
    let t = at₅.put_word.ensures in
    (put_then (put_then (put_then (put_then p q.0) r.0) s.0) t.0, omega (arith, p.ends, q.1, r.1, s.1, t.1))

pub put_line_spec : {M : Type 1} → statement M
put_line_spec =
    tie.close
    (tie.spec
    put-requires
    mul-put-thousandths
    add-put-thousandths
    put-thousandths-requires
    put-labelled-requires
    put-labelled-requires-2
    put-word-requires
    same_length
    returns)
