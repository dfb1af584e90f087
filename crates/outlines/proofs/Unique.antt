-- The list that is given is the only one: a ring is determined by its points, and three corners that turn left lie on no common line.
use mathlib.Core.Path.{◌≡◌, sym, ◌∙◌}
use mathlib.Core.List.{List}
use native.Mathlib.Omega.{arith}
use lib.IntN.{ℤ}
use Rattle.grid.specs.declared.Window.{Window}
use Rattle.rings.proofs.Lists.{all_zip}
use Rattle.rings.proofs.Fan.{corners_in}
use Rattle.rings.proofs.OneCut.{few_on}
use Rattle.rings.proofs.Theorems.{convex_ccw, same_points_alike}
use Rattle.outlines.specs.Outlines.{OutlineRing, OutlineNoArea, OutlineGives, area, without_area}
use Rattle.writing.proofs.Numbers.{numbers_unique}

-- a ring's corners are points in common, and they lie on no common line
not_both : {w : Window} {zs xs ys : List ℤ} → OutlineRing w zs xs → OutlineNoArea w zs ys → ⊥
not_both r n =
    let c = (convex_ccw r.corners).0 r.ring.convex in
    let on = all_zip (λ v h i. n.flat v h ((r.points v h).0 i)) r.ring.proper (corners_in c) in
    let few = few_on n.line n.real r.corners c on in
    let three = r.ring.three in
    omega arith

rings_unique : {w : Window} {zs xs ys : List ℤ} → OutlineRing w zs xs → OutlineRing w zs ys → xs ≡ ys
rings_unique p q =
    numbers_unique
    (same_points_alike p.corners q.corners p.ring q.ring p.starts q.starts
    (λ v h. (λ i. (q.points v h).1 ((p.points v h).0 i), λ i. (p.points v h).1 ((q.points v h).0 i))))
    p.numbers
    q.numbers

pub gives_unique : {w : Window} {zs xs ys : List ℤ} → OutlineGives w zs xs → OutlineGives w zs ys → xs ≡ ys
gives_unique (area p) (area q) = rings_unique p q
gives_unique (area p) (without_area n) = absurd (not_both p n)
gives_unique (without_area n) (area q) = absurd (not_both q n)
gives_unique (without_area n) (without_area m) = n.nothing ∙ sym m.nothing
