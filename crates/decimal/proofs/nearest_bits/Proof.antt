-- `decimal::nearest_bits` meets its contract: the number is scaled by a power of two until 24 digits stand before the point (`proofs/Patterns.antt`). Assumes nothing.
use mathlib.Core.Path.{◌≡◌, sym, ◌∙◌}
use mathlib.Core.Bool.{false}
use Prim.Native.Nat.{◌+◌, ◌*◌, ◌≤◌, ◌<◌}
use native.Mathlib.Nat.{le_trans, le_of_eq}
use lib.Ieee.{binary32, round, to_bits}
use lib.Ieee.Nearest.{closest}
use Rattle.whole.proofs.Rounding.{closest_only}
use native.Mathlib.Omega.{arith}
use Rattle.decimal.proofs.Patterns.{Scaled, scaled_start, scaled_left, scaled_on, no_more, nearest_bits}
use Rattle.decimal.proofs.nearest_bits.Statement.{statement}
use Rattle.decimal.proofs.nearest_bits.Tie as tie

abbrev invariant_loop : tie.invariant-loop-scaled
invariant_loop n d unit scaled₀ dropped₀ scaled dropped = Scaled n d scaled dropped

abbrev decreases_loop : tie.decreases-loop-scaled
decreases_loop n d unit scaled₀ dropped₀ scaled dropped = dropped

mul-unit : tie.Need-overflow_mul-unit invariant_loop decreases_loop
mul-unit c = omega arith

loop-holds : tie.Need-loop-scaled-init invariant_loop decreases_loop
loop-holds c = scaled_start c.requires.1.0 c.requires.0.1

mul-loop : tie.Need-overflow_mul-unit-in-loop-scaled invariant_loop decreases_loop
mul-loop c = omega arith

mul-scaled : tie.Need-overflow_mul-scaled invariant_loop decreases_loop
mul-scaled c = omega arith

left : (c : tie.In-loop-scaled invariant_loop decreases_loop) → 0 < c.before.loop-scaled.dropped
left c = scaled_left c.before.before.requires.0.0 c.before.before.requires.1.1 c.before.loop-scaled.invariant c.loop-scaled-test.true

sub-dropped : tie.Need-overflow_sub-dropped invariant_loop decreases_loop
sub-dropped c = left c

loop-less : tie.Need-loop-scaled-smaller invariant_loop decreases_loop
loop-less c = omega (arith, left c)

loop-again : tie.Need-loop-scaled-preserved invariant_loop decreases_loop
loop-again c = scaled_on (left c) c.loop-scaled-test.true c.before.loop-scaled.invariant

mul-result : tie.Need-overflow_mul-result invariant_loop decreases_loop
mul-result c = omega arith

closest-requires : tie.Need-closest-requires invariant_loop decreases_loop
closest-requires c κs = omega arith

is_closest : (c : tie.After-closest invariant_loop decreases_loop) → c.closest.result ≡ closest c.before.before.loop-scaled.scaled (c.before.before.before.args.d * 64)
is_closest c = closest_only (omega arith) c.closest.ensures

-- at most 24 digits and one more stay
kept : (c : tie.After-closest invariant_loop decreases_loop) → c.closest.result ≤ 16777216
kept c = le_trans (le_of_eq (is_closest c)) (no_more false c.before.before.before.requires.1.0 c.before.before.loop-scaled.invariant (omega arith))

bits : (c : tie.After-closest invariant_loop decreases_loop)
    → to_bits binary32 (round binary32 false c.before.before.before.args.n c.before.before.before.args.d) ≡ c.before.before.loop-scaled.dropped *
    8388608 + c.closest.result
bits c =
    nearest_bits false c.before.before.before.requires.1.0 c.before.before.loop-scaled.invariant (omega arith)
    ∙ omega (arith, is_closest c)

add-result : tie.Need-overflow_add-result invariant_loop decreases_loop
add-result c = omega (arith, kept c)

returns : tie.Need-returns invariant_loop decreases_loop
returns c = (sym (bits c), omega (arith, kept c))

pub nearest_bits_spec : {M : Type 1} → statement M
nearest_bits_spec =
    tie.close
    (tie.spec
    invariant_loop
    decreases_loop
    mul-unit
    loop-holds
    mul-loop
    mul-scaled
    sub-dropped
    loop-less
    loop-again
    mul-result
    closest-requires
    add-result
    returns)
