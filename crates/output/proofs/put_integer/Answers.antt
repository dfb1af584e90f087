-- A space, and behind it the number; an i64 holds every i32.
use native.Mathlib.Omega.{arith}
use mir.Facts.{to_z-of_z, sfits_widen}
use mir.Syntax.{w32, w64}
use Rattle.text.proofs.Numbers.{integer_short}
use Rattle.output.proofs.put_integer.Goals as goal

pub returns-clause-upper_bound : goal.returns-clause-upper_bound
returns-clause-upper_bound c =
    let z = c.ranges.z in
    let put = simp (to_z-of_z z, to_z-of_z {w = w64} (sfits_widen {w = w32} tt z)) at c.put_integer.ensures.put in
    omega (arith, put.ends, integer_short c.args.z z.sfits)
