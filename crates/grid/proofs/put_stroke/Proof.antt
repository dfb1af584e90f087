-- `grid::put_stroke` meets its contract: four stores, one after the other. Assumes nothing.
use borrow.Author.Rules.{rules}
use native.Mathlib.Numerals.{towards_suc}
use native.Mathlib.Omega.{arith}
use lib.ListN.{length-set}
use mir.Syntax.{w32}
use Rattle.whole.proofs.Comparisons.{back}
use Rattle.grid.proofs.put_stroke.Statement.{statement}
use Rattle.grid.proofs.put_stroke.Tie as tie

mul-x1 : tie.Need-offset_bounds-out-n
mul-x1 c = search rules

slice-set-from-x1 : tie.Need-bounds-out-n
slice-set-from-x1 c = search rules

add-y1 : tie.Need-overflow_add-y1
add-y1 c = search rules

mul-y1 : tie.Need-offset_bounds-out-n-2
mul-y1 c = search rules

slice-set-from-y1 : tie.Need-bounds-out-n-2
slice-set-from-y1 c = simp length-set (omega arith)

add-x2 : tie.Need-overflow_add-x2
add-x2 c = search rules

mul-x2 : tie.Need-offset_bounds-out-n-3
mul-x2 c = search rules

slice-set-from-x2 : tie.Need-bounds-out-n-3
slice-set-from-x2 c = simp length-set (omega arith)

add-y2 : tie.Need-overflow_add-y2
add-y2 c = search rules

mul-y2 : tie.Need-offset_bounds-out-n-4
mul-y2 c = search rules

slice-set-from-y2 : tie.Need-bounds-out-n-4
slice-set-from-y2 c = simp length-set (omega arith)

same_length : tie.Need-shape_of-out
same_length c = search rules

returns : tie.Need-returns
returns c =
    let s = c.before.before.before.before.args.s in
    let g = c.struct_told-4-1.given in
    simp (back w32 s.x1 g.0.1, back w32 s.y1 g.1.0.1, back w32 s.x2 g.1.1.0.1, back w32 s.y2 g.1.1.1.0.1) (simp towards_suc)

pub put_stroke_spec : {M : Type 1} → statement M
put_stroke_spec =
    tie.close
    (tie.spec
    mul-x1
    slice-set-from-x1
    add-y1
    mul-y1
    slice-set-from-y1
    add-x2
    mul-x2
    slice-set-from-x2
    add-y2
    mul-y2
    slice-set-from-y2
    same_length
    returns)
