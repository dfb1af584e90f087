-- `racks::compare_on` meets its contract: eight comparisons, each one place further. Assumes nothing.
use Prim.Native.Nat.{ℕ, ◌+◌, ◌<◌}
use native.Mathlib.Omega.{arith}
use Rattle.racks.proofs.Pairs.{fewer_met, further_met}
use Rattle.racks.proofs.compare_on.Statement.{statement}
use Rattle.racks.proofs.compare_on.Tie as tie

-- a comparison up to seven places further
further : (c : tie.Start) (k : ℕ) → k < 8 → (c.args.i < c.args.j + k) × (c.args.j + k < 65)
further c k h = (omega (arith, c.requires.1.0), omega (arith, c.requires.1.1))

compare-eight-requires : tie.Need-compare_eight-found0-requires
compare-eight-requires c κs = (c.requires.0, (c.requires.1.0, omega (arith, c.requires.1.1)))

add-compare-eight : tie.Need-overflow_add-j
add-compare-eight c = let a = c.before in omega (arith, a.requires.1.1)

compare-eight-requires-2 : tie.Need-compare_eight-found1-requires
compare-eight-requires-2 c κs = let a = c.before in (a.requires.0, further a 1 (omega arith))

add-compare-eight-2 : tie.Need-overflow_add-j-2
add-compare-eight-2 c = let a = c.before.before in omega (arith, a.requires.1.1)

compare-eight-requires-3 : tie.Need-compare_eight-found2-requires
compare-eight-requires-3 c κs = let a = c.before.before in (a.requires.0, further a 2 (omega arith))

add-compare-eight-3 : tie.Need-overflow_add-j-3
add-compare-eight-3 c = let a = c.before.before.before in omega (arith, a.requires.1.1)

compare-eight-requires-4 : tie.Need-compare_eight-found3-requires
compare-eight-requires-4 c κs = let a = c.before.before.before in (a.requires.0, further a 3 (omega arith))

add-compare-eight-4 : tie.Need-overflow_add-j-4
add-compare-eight-4 c = let a = c.before.before.before.before in omega (arith, a.requires.1.1)

compare-eight-requires-5 : tie.Need-compare_eight-found4-requires
compare-eight-requires-5 c κs = let a = c.before.before.before.before in (a.requires.0, further a 4 (omega arith))

add-compare-eight-5 : tie.Need-overflow_add-j-5
add-compare-eight-5 c = let a = c.before.before.before.before.before in omega (arith, a.requires.1.1)

compare-eight-requires-6 : tie.Need-compare_eight-found5-requires
compare-eight-requires-6 c κs = let a = c.before.before.before.before.before in (a.requires.0, further a 5 (omega arith))

add-compare-eight-6 : tie.Need-overflow_add-j-6
add-compare-eight-6 c = let a = c.before.before.before.before.before.before in omega (arith, a.requires.1.1)

compare-eight-requires-7 : tie.Need-compare_eight-found6-requires
compare-eight-requires-7 c κs = let a = c.before.before.before.before.before.before in (a.requires.0, further a 6 (omega arith))

add-compare-eight-7 : tie.Need-overflow_add-j-7
add-compare-eight-7 c = let a = c.before.before.before.before.before.before.before in omega (arith, a.requires.1.1)

compare-eight-requires-8 : tie.Need-compare_eight-requires
compare-eight-requires-8 c κs = let a = c.before.before.before.before.before.before.before in (a.requires.0, further a 7 (omega arith))

returns : tie.Need-returns
returns c =
    let c6 = c.before in
    let c5 = c6.before in
    let c4 = c5.before in
    let c3 = c4.before in
    let c2 = c3.before in
    let c1 = c2.before in
    let c0 = c1.before in
    let m1 = further_met c0.compare_eight-found0.ensures c1.compare_eight-found1.ensures (omega arith) in
    let m2 = further_met m1 c2.compare_eight-found2.ensures (omega arith) in
    let m3 = further_met m2 c3.compare_eight-found3.ensures (omega arith) in
    let m4 = further_met m3 c4.compare_eight-found4.ensures (omega arith) in
    let m5 = further_met m4 c5.compare_eight-found5.ensures (omega arith) in
    let m6 = further_met m5 c6.compare_eight-found6.ensures (omega arith) in
    let m7 = further_met m6 c.compare_eight.ensures (omega arith) in
    fewer_met m7 (λ p q k. record { first = k.first; last = k.last; near = k.near; far = omega (arith, k.far) })

pub compare_on_spec : {M : Type 1} → statement M
compare_on_spec =
    tie.close
    (tie.spec
    compare-eight-requires
    add-compare-eight
    compare-eight-requires-2
    add-compare-eight-2
    compare-eight-requires-3
    add-compare-eight-3
    compare-eight-requires-4
    add-compare-eight-4
    compare-eight-requires-5
    add-compare-eight-5
    compare-eight-requires-6
    add-compare-eight-6
    compare-eight-requires-7
    add-compare-eight-7
    compare-eight-requires-8
    returns)
