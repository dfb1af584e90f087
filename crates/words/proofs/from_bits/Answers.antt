-- The patterns above that of the infinity, their sign left away, are those of the NaN.
use mathlib.Core.Path.{sym}
use native.Mathlib.Omega.{arith}
use lib.Ieee.{of_bits}
use Rattle.words.proofs.Patterns.{above, not_above}
use Rattle.words.proofs.from_bits.Goals as goal

pub returns-then-bits-gt-INFINITY : goal.returns-then-bits-gt-INFINITY
unfolding of_bits
returns-then-bits-gt-INFINITY c = sym (above c.args.bits (omega arith))

pub float_from_bits-result : goal.float_from_bits-result
float_from_bits-result c = not_above c.args.bits (omega arith)
