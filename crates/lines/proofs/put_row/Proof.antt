-- The index and the two points, one after another, by the numbers as they stand in the list.
use Prim.Native.Nat.{◌+◌}
use lib.IntN.{pos}
use lib.ListN.{get_or}
use mir.Syntax.{w32}
use Rattle.whole.proofs.Comparisons.{back}
use native.Mathlib.Omega.{arith}
use Rattle.text.proofs.Puts.{put_then}
use Rattle.lines.specs.Lines.{row_line}
use borrow.Author.Rules.{rules}
use Rattle.lines.proofs.put_row.Statement.{statement}
use Rattle.lines.proofs.put_row.Tie as tie

mul-index : tie.Need-offset_bounds-rows-i
mul-index c = search rules

shared-slice-copy-out-index : tie.Need-bounds-rows-i
shared-slice-copy-out-index c = search rules

add-ax : tie.Need-overflow_add-ax
add-ax c = search rules

mul-ax : tie.Need-offset_bounds-rows-i-2
mul-ax c = search rules

shared-slice-copy-out-ax : tie.Need-bounds-rows-i-2
shared-slice-copy-out-ax c = search rules

add-ay : tie.Need-overflow_add-ay
add-ay c = search rules

mul-ay : tie.Need-offset_bounds-rows-i-3
mul-ay c = search rules

shared-slice-copy-out-ay : tie.Need-bounds-rows-i-3
shared-slice-copy-out-ay c = search rules

add-bx : tie.Need-overflow_add-bx
add-bx c = search rules

mul-bx : tie.Need-offset_bounds-rows-i-4
mul-bx c = search rules

shared-slice-copy-out-bx : tie.Need-bounds-rows-i-4
shared-slice-copy-out-bx c = search rules

add-by : tie.Need-overflow_add-by
add-by c = search rules

mul-by : tie.Need-offset_bounds-rows-i-5
mul-by c = search rules

shared-slice-copy-out-by : tie.Need-bounds-rows-i-5
shared-slice-copy-out-by c = search rules

put-number-requires : tie.Need-put_number-a-requires
put-number-requires c κs = search rules

put-point-requires : tie.Need-put_point-b-requires
put-point-requires c κs = search rules

put-point-requires-2 : tie.Need-put_point-requires
put-point-requires-2 c κs = search rules

same_length : tie.Need-shape_of-page
same_length c = search rules

returns : tie.Need-returns
unfolding row_line
returns c =
    let at₉ = c.before.before in
    let at₈ = at₉.before.before.before.before in
    let at₇ = at₈.before.before.before.before in
    let at₆ = at₇.before.before in
    let at₅ = at₆.before in
    let at₄ = at₅.before in
    let at₃ = at₄.before in
    let at₂ = at₃.before in
    let at₁ = at₂.before.before in
    let s = at₁ in
    let xs = s.args.rows.now in
    let i = s.args.i in
    let p = at₇.put_number-a.ensures in
    let q = at₈.put_point-b.ensures in
    let r = at₉.put_point.ensures in
    let k = (back w32 (get_or xs i (pos 0)) at₂.index-1.given) in
    let a = (back w32 (get_or xs (i + 1) (pos 0)) at₃.ax-1.given) in
    let b = (back w32 (get_or xs (i + 2) (pos 0)) at₄.ay-1.given) in
    let d = (back w32 (get_or xs (i + 3) (pos 0)) at₅.bx-1.given) in
    let e = (back w32 (get_or xs (i + 4) (pos 0)) at₆.by-1.given) in
    (put_then (put_then (simp k at p.0) (simp (a, b) at q.0)) (simp (d, e) at r.0), omega (arith, p.1, q.1, r.1))

pub put_row_spec : {M : Type 1} → statement M
put_row_spec =
    tie.close
    (tie.spec
    mul-index
    shared-slice-copy-out-index
    add-ax
    mul-ax
    shared-slice-copy-out-ax
    add-ay
    mul-ay
    shared-slice-copy-out-ay
    add-bx
    mul-bx
    shared-slice-copy-out-bx
    add-by
    mul-by
    shared-slice-copy-out-by
    put-number-requires
    put-point-requires
    put-point-requires-2
    same_length
    returns)
