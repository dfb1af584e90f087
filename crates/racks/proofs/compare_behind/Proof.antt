-- `racks::compare_behind` meets its contract: there is a strip at the place j, and all behind the eight places, up to j, have met them; the last
-- strip stands before j in the end. Assumes nothing.
use mathlib.Core.Path.{◌≡◌, refl}
use mathlib.Core.List.{List}
use Prim.Native.Nat.{◌+◌, ◌-◌, ◌%◌, ◌<◌}
use native.Mathlib.Omega.{arith}
use lib.ListN.{length}
use Rattle.grid.specs.declared.Window.{Window}
use Rattle.racks.specs.Pairs.{Met, Compares}
use Rattle.racks.specs.Racks.{Carries}
use Rattle.racks.proofs.Pairs.{strip_there, none_there, nothing_met, fewer_met, further_met}
use Rattle.racks.proofs.compare_behind.Statement.{statement}
use Rattle.racks.proofs.compare_behind.Tie as tie

abbrev invariant_loop : tie.invariant-loop-j
invariant_loop rack i found₀ j₀ found j =
    (i < j) × (j % 8 ≡ 1) × ((ws : List Window) × Carries rack ws × (j < length ws)) × Compares rack (Met i (i + 1) j) found₀ found

abbrev decreases_loop : tie.decreases-loop-j
decreases_loop rack i found₀ j₀ found j = 72 - j

add-j : tie.Need-overflow_add-j invariant_loop decreases_loop
add-j c = let hold = c.requires.1 in omega (arith, hold.2, hold.1.few)

loop-holds : tie.Need-loop-j-init invariant_loop decreases_loop
loop-holds c = (omega arith, omega (arith, c.requires.0), c.requires.1, nothing_met (λ p q k. let n = k.near in let f = k.far in omega arith))

-- there is a strip at the place j, so it is not one of the last
short : (c : tie.At-loop-j invariant_loop decreases_loop) → c.loop-j.j < 58
short c = let hold = c.loop-j.invariant.2 in omega (arith, c.loop-j.invariant.1, hold.2, hold.1.few)

compare-on-requires : tie.Need-compare_on-more-requires invariant_loop decreases_loop
compare-on-requires c κs = let hold = c.loop-j.invariant.2 in ((hold.0, hold.1), (c.loop-j.invariant.0, short c))

add-j-2 : tie.Need-overflow_add-j-in-loop-j invariant_loop decreases_loop
add-j-2 c = omega (arith, short c.before)

mul-if1 : tie.Need-offset_bounds-rack-j invariant_loop decreases_loop
mul-if1 c = omega (arith, short c.before)

element-copy-out-if1 : tie.Need-bounds-rack-j invariant_loop decreases_loop
element-copy-out-if1 c = omega (arith, short c.before)

returns : tie.Need-returns-then-rack-j-eq-VACANT invariant_loop decreases_loop
returns c ws hold =
    let m = c.before.before in
    let l = m.before in
    let past = none_there hold (l.loop-j.j + 8) c.before.t10-1.given c.if-rack-j-eq-VACANT.true in
    fewer_met (further_met l.loop-j.invariant.3 m.compare_on-more.ensures refl)
    (λ p q k. record { first = k.first; last = k.last; near = k.near; far = omega (arith, past, k.far) })

loop-less : tie.Need-loop-j-smaller invariant_loop decreases_loop
loop-less c = omega (arith, short c.before.before.before)

loop-again : tie.Need-loop-j-preserved invariant_loop decreases_loop
loop-again c =
    let m = c.before.before in
    let l = m.before in
    let hold = l.loop-j.invariant.2 in
    let there = strip_there hold.1 (l.loop-j.j + 8) (omega (arith, short l)) c.if-rack-j-eq-VACANT.false in (
      omega (arith, l.loop-j.invariant.0),
      omega (arith, l.loop-j.invariant.1),
      (hold.0, hold.1, there),
      further_met l.loop-j.invariant.3 m.compare_on-more.ensures refl,
    )

pub compare_behind_spec : {M : Type 1} → statement M
compare_behind_spec =
    tie.close
    (tie.spec
    invariant_loop
    decreases_loop
    add-j
    loop-holds
    compare-on-requires
    add-j-2
    mul-if1
    element-copy-out-if1
    returns
    loop-less
    loop-again)
