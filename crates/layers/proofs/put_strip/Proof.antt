-- Words, the way round, words.
use native.Mathlib.Omega.{arith}
use Rattle.text.proofs.Puts.{put_then}
use Rattle.layers.specs.Layers.{strip_path}
use borrow.Author.Rules.{rules}
use Rattle.layers.proofs.put_strip.Statement.{statement}
use Rattle.layers.proofs.put_strip.Tie as tie

put-start-requires : tie.Need-put_start-a-requires
put-start-requires c κs = search rules

put-requires : tie.Need-put-b-requires
put-requires c κs = search rules

put-round-requires : tie.Need-put_round-c-requires
put-round-requires c κs = search rules

put-requires-2 : tie.Need-put-requires
put-requires-2 c κs = search rules

same_length : tie.Need-shape_of-page
same_length c = search rules

returns : tie.Need-returns
unfolding strip_path
returns c =
    let at₄ = c.before.before in
    let at₃ = at₄.before.before.before.before.before in
    let at₂ = at₃.before.before.before.before in
    let at₁ = at₂.before.before.before.before.before in
    let p = at₁.put_start-a.ensures in
    let q = at₂.put-b.ensures in
    let r = at₃.put_round-c.ensures in
    let s = at₄.put.ensures in
    (put_then (put_then (put_then p.0 q) r.0) s, omega (arith, p.1, q.ends, r.1, s.ends))

pub put_strip_spec : {M : Type 1} → statement M
put_strip_spec =
    tie.close
    (tie.spec
    put-start-requires
    put-requires
    put-round-requires
    put-requires-2
    same_length
    returns)
