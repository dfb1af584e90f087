-- The corner and three sides, one after another.
use mir.Syntax.{w32}
use Rattle.whole.proofs.Comparisons.{back}
use native.Mathlib.Omega.{arith}
use Rattle.text.proofs.Puts.{put_then}
use Rattle.layers.specs.Layers.{round_path}
use borrow.Author.Rules.{rules}
use Rattle.layers.proofs.put_round.Statement.{statement}
use Rattle.layers.proofs.put_round.Tie as tie

put-point-requires : tie.Need-put_point-a-requires
put-point-requires c κs = search rules

put-number-requires : tie.Need-put_number-b-requires
put-number-requires c κs = search rules

put-number-requires-2 : tie.Need-put_number-c-requires
put-number-requires-2 c κs = search rules

put-number-requires-3 : tie.Need-put_number-requires
put-number-requires-3 c κs = search rules

same_length : tie.Need-shape_of-page
same_length c = search rules

returns : tie.Need-returns
unfolding round_path
returns c =
    let at₆ = c.before.before in
    let at₅ = at₆.before.before.before.before.before in
    let at₄ = at₅.before.before.before.before.before in
    let at₃ = at₄.before.before.before.before.before in
    let at₂ = at₃.before.before in
    let at₁ = at₂.before.before.before in
    let w = at₁.args.w in
    let t = at₂.struct_told-1.given in
    let p = at₃.put_point-a.ensures in
    let q = at₄.put_number-b.ensures in
    let r = at₅.put_number-c.ensures in
    let s = at₆.put_number.ensures in
    let left = back w32 w.left t.0.1 in
    let bottom = back w32 w.bottom t.1.0.1 in
    let right = back w32 w.right t.1.1.0.1 in
    let top = back w32 w.top t.1.1.1.0.1 in (
      put_then (put_then (put_then (simp (left, bottom) at p.0) (simp right at q.0)) (simp top at r.0)) (simp left at s.0),
      omega (arith, p.1, q.1, r.1, s.1),
    )

pub put_round_spec : {M : Type 1} → statement M
put_round_spec =
    tie.close
    (tie.spec
    put-point-requires
    put-number-requires
    put-number-requires-2
    put-number-requires-3
    same_length
    returns)
