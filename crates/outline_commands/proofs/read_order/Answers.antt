-- The number read is one that a u32 holds.
use mathlib.Core.Path.{sym, ◌∙◌}
use native.Mathlib.Omega.{arith}
use Rattle.words.proofs.Numerals.{unsigned_is}
use Rattle.outline_commands.proofs.read_order.Goals as goal

pub overflow_cast-result : goal.overflow_cast-result
overflow_cast-result c = record { fits = omega (arith, unsigned_is 4294967295 _ _ (sym c.in_ok-read_unsigned.was ∙ c.read_unsigned.ensures)) }
