-- Words and the two choices of points, one after another.
use native.Mathlib.Omega.{arith}
use Rattle.text.proofs.Puts.{put_then}
use Rattle.dots.specs.Dots.{points}
use borrow.Author.Rules.{rules}
use Rattle.dots.proofs.put_all.Statement.{statement}
use Rattle.dots.proofs.put_all.Tie as tie

mul-put-start : tie.Need-overflow_mul-e
mul-put-start c = search rules

put-start-requires : tie.Need-put_start-a-requires
put-start-requires c κs = search rules

put-points-requires : tie.Need-put_points-b-requires
put-points-requires c κs = search rules

mul-put-start-2 : tie.Need-overflow_mul-e-2
mul-put-start-2 c = search rules

put-start-requires-2 : tie.Need-put_start-c-requires
put-start-requires-2 c κs = search rules

put-points-requires-2 : tie.Need-put_points-d-requires
put-points-requires-2 c κs = search rules

put-requires : tie.Need-put-requires
put-requires c κs = search rules

same_length : tie.Need-shape_of-page
same_length c = search rules

returns : tie.Need-returns
unfolding points
returns c =
    let at₅ = c.before.before in
    let at₄ = at₅.before.before.before.before.before in
    let at₃ = at₄.before.before.before.before in
    let at₂ = at₃.before.before.before.before.before in
    let at₁ = at₂.before.before.before.before in
    let p = at₁.put_start-a.ensures in
    let q = at₂.put_points-b.ensures in
    let r = at₃.put_start-c.ensures in
    let s = at₄.put_points-d.ensures in
    let t = at₅.put.ensures in
    (put_then (put_then (put_then (put_then p.0 q.0) r.0) s.0) t, omega (arith, p.1, q.1, r.1, s.1, t.ends))

pub put_all_spec : {M : Type 1} → statement M
put_all_spec =
    tie.close
    (tie.spec
    mul-put-start
    put-start-requires
    put-points-requires
    mul-put-start-2
    put-start-requires-2
    put-points-requires-2
    put-requires
    same_length
    returns)
