-- The number at the two distances, by the numbers as they stand in the list and in the view.
use Prim.Native.Nat.{◌+◌, ◌*◌}
use lib.IntN.{pos}
use lib.ListN.{get_or}
use mir.Syntax.{w32}
use Rattle.whole.proofs.Comparisons.{back}
use Rattle.labels.specs.Labels.{label}
use borrow.Author.Rules.{rules}
use Rattle.labels.proofs.put_label.Statement.{statement}
use Rattle.labels.proofs.put_label.Tie as tie

mul-middle : tie.Need-overflow_mul-k
mul-middle c = search rules

mul-middle-2 : tie.Need-offset_bounds-strokes-k
mul-middle-2 c = search rules

shared-slice-copy-out-middle : tie.Need-bounds-strokes-k
shared-slice-copy-out-middle c = search rules

mul-middle-3 : tie.Need-overflow_mul-k-2
mul-middle-3 c = search rules

add-middle : tie.Need-overflow_add-k
add-middle c = search rules

mul-middle-4 : tie.Need-offset_bounds-strokes-k-2
mul-middle-4 c = search rules

shared-slice-copy-out-middle-2 : tie.Need-bounds-strokes-k-2
shared-slice-copy-out-middle-2 c = search rules

middle-requires : tie.Need-middle-right-requires
middle-requires c κs = search rules

mul-middle-5 : tie.Need-overflow_mul-k-3
mul-middle-5 c = search rules

add-middle-2 : tie.Need-overflow_add-k-2
add-middle-2 c = search rules

mul-middle-6 : tie.Need-offset_bounds-strokes-k-3
mul-middle-6 c = search rules

shared-slice-copy-out-middle-3 : tie.Need-bounds-strokes-k-3
shared-slice-copy-out-middle-3 c = search rules

mul-middle-7 : tie.Need-overflow_mul-k-4
mul-middle-7 c = search rules

add-middle-3 : tie.Need-overflow_add-k-3
add-middle-3 c = search rules

mul-middle-8 : tie.Need-offset_bounds-strokes-k-4
mul-middle-8 c = search rules

shared-slice-copy-out-middle-4 : tie.Need-bounds-strokes-k-4
shared-slice-copy-out-middle-4 c = search rules

middle-requires-2 : tie.Need-middle-down-requires
middle-requires-2 c κs = search rules

put-number-requires : tie.Need-put_number-requires
put-number-requires c κs = search rules

same_length : tie.Need-shape_of-page
same_length c = search rules

returns : tie.Need-returns
unfolding label
returns c =
    let d = c.before.before.before.before in
    let t = d.before in
    let d₂ = t.before in
    let d₁ = d₂.before in
    let r = d₁.before in
    let l = r.before in
    let r₂ = l.before in
    let r₁ = r₂.before in
    let a = r₁.before.before.args in
    let zs = a.strokes.now in
    let w = a.v in
    let i = a.k * 4 in
    let left = back w32 w.left l.struct_told-1.given.0.1 in
    let top = back w32 w.top t.struct_told-2-1.given.1.1.1.0.1 in
    let x₁ = back w32 (get_or zs i (pos 0)) r₁.middle-arg-1.given in
    let x₂ = back w32 (get_or zs (i + 2) (pos 0)) r₂.middle-arg-2-1.given in
    let y₁ = back w32 (get_or zs (i + 1) (pos 0)) d₁.middle-arg-3-1.given in
    let y₂ = back w32 (get_or zs (i + 3) (pos 0)) d₂.middle-arg-4-1.given in
    let right = simp (left, x₁, x₂) at r.middle-right.ensures in
    let down = simp (top, y₁, y₂) at d.middle-down.ensures in
    let p = c.before.before.put_number.ensures in
    (rw (← right, ← down) p.0, p.1)

pub put_label_spec : {M : Type 1} → statement M
put_label_spec =
    tie.close
    (tie.spec
    mul-middle
    mul-middle-2
    shared-slice-copy-out-middle
    mul-middle-3
    add-middle
    mul-middle-4
    shared-slice-copy-out-middle-2
    middle-requires
    mul-middle-5
    add-middle-2
    mul-middle-6
    shared-slice-copy-out-middle-3
    mul-middle-7
    add-middle-3
    mul-middle-8
    shared-slice-copy-out-middle-4
    middle-requires-2
    put-number-requires
    same_length
    returns)
