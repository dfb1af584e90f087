-- The letter and the two points, one after another, by the numbers as they stand in the list.
use Prim.Native.Nat.{◌+◌}
use lib.IntN.{pos}
use lib.ListN.{get_or}
use mir.Syntax.{w32}
use Rattle.whole.proofs.Comparisons.{back}
use native.Mathlib.Omega.{arith}
use Rattle.text.proofs.Puts.{put_then}
use Rattle.paths.specs.Paths.{stroke_path}
use borrow.Author.Rules.{rules}
use Rattle.paths.proofs.put_stroke.Statement.{statement}
use Rattle.paths.proofs.put_stroke.Tie as tie

mul-ax : tie.Need-offset_bounds-xs-i
mul-ax c = search rules

shared-slice-copy-out-ax : tie.Need-bounds-xs-i
shared-slice-copy-out-ax c = search rules

add-ay : tie.Need-overflow_add-ay
add-ay c = search rules

mul-ay : tie.Need-offset_bounds-xs-i-2
mul-ay c = search rules

shared-slice-copy-out-ay : tie.Need-bounds-xs-i-2
shared-slice-copy-out-ay c = search rules

add-bx : tie.Need-overflow_add-bx
add-bx c = search rules

mul-bx : tie.Need-offset_bounds-xs-i-3
mul-bx c = search rules

shared-slice-copy-out-bx : tie.Need-bounds-xs-i-3
shared-slice-copy-out-bx c = search rules

add-by : tie.Need-overflow_add-by
add-by c = search rules

mul-by : tie.Need-offset_bounds-xs-i-4
mul-by c = search rules

shared-slice-copy-out-by : tie.Need-bounds-xs-i-4
shared-slice-copy-out-by c = search rules

put-requires : tie.Need-put-a-requires
put-requires c κs = search rules

put-point-requires : tie.Need-put_point-b-requires
put-point-requires c κs = search rules

put-point-requires-2 : tie.Need-put_point-requires
put-point-requires-2 c κs = search rules

same_length : tie.Need-shape_of-page
same_length c = search rules

returns : tie.Need-returns
unfolding stroke_path
returns c =
    let at₈ = c.before.before in
    let at₇ = at₈.before.before.before.before in
    let at₆ = at₇.before.before.before.before in
    let at₅ = at₆.before.before.before in
    let at₄ = at₅.before in
    let at₃ = at₄.before in
    let at₂ = at₃.before in
    let at₁ = at₂.before.before in
    let s = at₁ in
    let xs = s.args.xs.now in
    let i = s.args.i in
    let p = at₆.put-a.ensures in
    let q = at₇.put_point-b.ensures in
    let r = at₈.put_point.ensures in
    let a = (back w32 (get_or xs i (pos 0)) at₂.ax-1.given) in
    let b = (back w32 (get_or xs (i + 1) (pos 0)) at₃.ay-1.given) in
    let d = (back w32 (get_or xs (i + 2) (pos 0)) at₄.bx-1.given) in
    let e = (back w32 (get_or xs (i + 3) (pos 0)) at₅.by-1.given) in
    (put_then (put_then p (simp (a, b) at q.0)) (simp (d, e) at r.0), omega (arith, p.ends, q.1, r.1))

pub put_stroke_spec : {M : Type 1} → statement M
put_stroke_spec =
    tie.close
    (tie.spec
    mul-ax
    shared-slice-copy-out-ax
    add-ay
    mul-ay
    shared-slice-copy-out-ay
    add-bx
    mul-bx
    shared-slice-copy-out-bx
    add-by
    mul-by
    shared-slice-copy-out-by
    put-requires
    put-point-requires
    put-point-requires-2
    same_length
    returns)
