-- The quotient of the definition, where the view has a size; of no size the logic's quotient is 0.
use Prim.Native.Nat.{◌*◌}
use native.Mathlib.Nat.{div-zero, div-le_self}
use native.Mathlib.Omega.{arith}
use Rattle.frames.specs.Frames.{pixels_high}
use borrow.Author.Rules.{rules}
use Rattle.frames.proofs.pixels_high.Statement.{statement}
use Rattle.frames.proofs.pixels_high.Tie as tie

extent-requires : tie.Need-extent-e-requires
extent-requires c κs = search rules

height-requires : tie.Need-height-high-requires
height-requires c κs = search rules

returns : tie.Need-returns-then-e-eq0
unfolding pixels_high
returns c = rw (← c.before.before.extent-e.ensures.0, c.if-e-eq0.true, div-zero)

mul-result : tie.Need-overflow_mul-result
mul-result c = search rules

div-result : tie.Need-nonzero_div-result
div-result c = search rules

add-result : tie.Need-overflow_add-result
add-result c =
    let h = c.before.height-high in
    record { fits = omega (arith, h.ensures.1, div-le_self (1000 * h.result) c.before.before.extent-e.result) }

returns-2 : tie.Need-returns
unfolding pixels_high
returns-2 c = rw (← c.before.before.extent-e.ensures.0, ← c.before.height-high.ensures.0)

pub pixels_high_spec : {M : Type 1} → statement M
pixels_high_spec =
    tie.close
    (tie.spec extent-requires height-requires returns mul-result div-result add-result returns-2)
