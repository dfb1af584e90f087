-- Four numbers, one after another.
use native.Mathlib.Omega.{arith}
use Rattle.text.proofs.Puts.{put_then}
use Rattle.measures.specs.Measures.{thousandths}
use borrow.Author.Rules.{rules}
use Rattle.measures.proofs.put_thousandths.Statement.{statement}
use Rattle.measures.proofs.put_thousandths.Tie as tie

put-count-requires : tie.Need-put_count-a-requires
put-count-requires c κs = search rules

put-natural-requires : tie.Need-put_natural-b-requires
put-natural-requires c κs = search rules

put-natural-requires-2 : tie.Need-put_natural-c-requires
put-natural-requires-2 c κs = search rules

put-count-requires-2 : tie.Need-put_count-requires
put-count-requires-2 c κs = search rules

same_length : tie.Need-shape_of-page
same_length c = search rules

returns : tie.Need-returns
unfolding thousandths
returns c =
    let at₄ = c.before.before in
    let at₃ = at₄.before.before.before.before in
    let at₂ = at₃.before.before.before.before in
    let at₁ = at₂.before.before.before.before in
    let p = at₁.put_count-a.ensures in
    let q = at₂.put_natural-b.ensures in
    let r = at₃.put_natural-c.ensures in
    let s = at₄.put_count.ensures in
    (put_then (put_then (put_then p.0 q.0) r.0) s.0, omega (arith, p.1, q.1, r.1, s.1))

pub put_thousandths_spec : {M : Type 1} → statement M
put_thousandths_spec =
    tie.close
    (tie.spec
    put-count-requires
    put-natural-requires
    put-natural-requires-2
    put-count-requires-2
    same_length
    returns)
