-- The two distances.
use Prim.Native.Nat.{◌+◌}
use mir.Facts.{to_z-of_z}
use Rattle.labels.specs.Labels.{middle}
use borrow.Author.Rules.{rules}
use Rattle.labels.proofs.middle.Statement.{statement}
use Rattle.labels.proofs.middle.Tie as tie

apart-requires : tie.Need-apart-requires
apart-requires c κs = search rules

apart-requires-2 : tie.Need-apart-requires-2
apart-requires-2 c κs = search rules

add-result : tie.Need-overflow_add-result
add-result c = search rules

returns : tie.Need-returns
unfolding middle
returns c =
    let f = c.before.before.ranges in
    let p = simp (to_z-of_z f.side, to_z-of_z f.a) at c.before.apart.ensures.0 in
    let q = simp (to_z-of_z f.side, to_z-of_z f.b) at c.apart-2.ensures.0 in
    λ i. p i + q i

pub middle_spec : {M : Type 1} → statement M
middle_spec = tie.close (tie.spec apart-requires apart-requires-2 add-result returns)
