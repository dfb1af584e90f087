-- `crossings::edge` meets its contract: the next corner is the definition's. Assumes nothing.
use mathlib.Core.Path.{◌∙◌}
use Prim.Native.Nat.{◌+◌, ◌*◌, ◌/◌, ◌<◌}
use native.Mathlib.Omega.{arith}
use borrow.Author.Rules.{rules}
use lib.IntN.{pos}
use lib.ListN.{length, get_or}
use Rattle.crossings.specs.Tags.{stroke_from, edge_of}
use Rattle.crossings.proofs.Outlines.{read_stroke, next_below}
use Rattle.crossings.proofs.edge.Statement.{statement}
use Rattle.crossings.proofs.edge.Tie as tie

next-of-requires : tie.Need-next_of-next-requires
next-of-requires c κs = search rules

mul-t4 : tie.Need-overflow_mul-result
mul-t4 c = search rules

mul-t5 : tie.Need-offset_bounds-outline-k
mul-t5 c = search rules

shared-slice-copy-out-t7 : tie.Need-bounds-outline-k
shared-slice-copy-out-t7 c = search rules

mul-t8 : tie.Need-overflow_mul-result-2
mul-t8 c = search rules

add-t9 : tie.Need-overflow_add-result
add-t9 c = search rules

mul-t10 : tie.Need-offset_bounds-outline-k-2
mul-t10 c = search rules

shared-slice-copy-out-t12 : tie.Need-bounds-outline-k-2
shared-slice-copy-out-t12 c = search rules

-- the next corner is one of the outline's
next_in : (c : tie.After-next_of-next) → 2 * c.next_of-next.result + 1 < length c.before.args.outline.now
next_in c =
    let s = c.before in
    omega (arith, c.next_of-next.ensures, next_below (length s.args.outline.now / 2) s.args.k s.requires.1)

mul-t13 : tie.Need-overflow_mul-result-3
mul-t13 c = omega (arith, next_in c.before.before, c.before.before.before.well_formed)

mul-t14 : tie.Need-offset_bounds-outline-next
mul-t14 c = omega (arith, next_in c.before.before, c.before.before.before.well_formed)

shared-slice-copy-out-t16 : tie.Need-bounds-outline-next
shared-slice-copy-out-t16 c = omega (arith, next_in c.before.before)

mul-t17 : tie.Need-overflow_mul-result-4
mul-t17 c = omega (arith, next_in c.before.before.before, c.before.before.before.before.well_formed)

add-t18 : tie.Need-overflow_add-result-2
add-t18 c = omega (arith, next_in c.before.before.before, c.before.before.before.before.well_formed)

mul-t19 : tie.Need-offset_bounds-outline-next-2
mul-t19 c = omega (arith, next_in c.before.before.before, c.before.before.before.before.well_formed)

shared-slice-copy-out-t21 : tie.Need-bounds-outline-next-2
shared-slice-copy-out-t21 c = next_in c.before.before.before

returns : tie.Need-returns
unfolding edge_of
returns c =
    let n = c.before.before.before.before in
    let zs = n.before.args.outline.now in
    let k = n.before.args.k in
    let j = n.next_of-next.result in
    read_stroke (get_or zs (2 * k) (pos 0)) (get_or zs (2 * k + 1) (pos 0)) (get_or zs (2 * j) (pos 0)) (get_or zs (2 * j + 1) (pos 0))
    c.before.before.before.result-1.given c.before.before.result-2-1.given c.before.result-3-1.given c.result-4-1.given
    ∙ (λ i. stroke_from (get_or zs (2 * k) (pos 0)) (get_or zs (2 * k + 1) (pos 0)) (get_or zs (2 * n.next_of-next.ensures i) (pos 0))
    (get_or zs (2 * n.next_of-next.ensures i + 1) (pos 0)))

pub edge_spec : {M : Type 1} → statement M
edge_spec =
    tie.close
    (tie.spec
    next-of-requires
    mul-t4
    mul-t5
    shared-slice-copy-out-t7
    mul-t8
    add-t9
    mul-t10
    shared-slice-copy-out-t12
    mul-t13
    mul-t14
    shared-slice-copy-out-t16
    mul-t17
    add-t18
    mul-t19
    shared-slice-copy-out-t21
    returns)
