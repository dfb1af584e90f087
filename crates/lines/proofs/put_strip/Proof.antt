-- A word and two corners, one after another.
use mir.Syntax.{w32}
use Rattle.whole.proofs.Comparisons.{back}
use native.Mathlib.Omega.{arith}
use Rattle.text.proofs.Puts.{put_then}
use Rattle.lines.specs.Lines.{strip_line}
use borrow.Author.Rules.{rules}
use Rattle.lines.proofs.put_strip.Statement.{statement}
use Rattle.lines.proofs.put_strip.Tie as tie

put-requires : tie.Need-put-a-requires
put-requires c κs = search rules

put-point-requires : tie.Need-put_point-b-requires
put-point-requires c κs = search rules

put-point-requires-2 : tie.Need-put_point-requires
put-point-requires-2 c κs = search rules

same_length : tie.Need-shape_of-page
same_length c = search rules

returns : tie.Need-returns
unfolding strip_line
returns c =
    let at₅ = c.before.before in
    let at₄ = at₅.before.before.before.before.before.before in
    let at₃ = at₄.before.before in
    let at₂ = at₃.before.before.before.before in
    let at₁ = at₂.before.before.before.before in
    let w = at₁.args.w in
    let t = at₃.struct_told-1.given in
    let p = at₂.put-a.ensures in
    let q = at₄.put_point-b.ensures in
    let r = at₅.put_point.ensures in
    let left = back w32 w.left t.0.1 in
    let bottom = back w32 w.bottom t.1.0.1 in
    let right = back w32 w.right t.1.1.0.1 in
    let top = back w32 w.top t.1.1.1.0.1 in
    (put_then (put_then p (simp (left, bottom) at q.0)) (simp (right, top) at r.0), omega (arith, p.ends, q.1, r.1))

pub put_strip_spec : {M : Type 1} → statement M
put_strip_spec =
    tie.close
    (tie.spec
    put-requires
    put-point-requires
    put-point-requires-2
    same_length
    returns)
