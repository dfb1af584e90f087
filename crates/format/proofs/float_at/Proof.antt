-- `format::float_at` meets its contract: every NaN pattern is the one NaN, and another pattern is its float. Assumes nothing.
use borrow.Author.Rules.{rules}
use mathlib.Core.Path.{sym, ap, ◌∙◌}
use lib.Ieee.{binary32, of_bits, div}
use Rattle.format.specs.Format.{float_at}
use Rattle.format.proofs.Patterns.{above, not_above}
use Rattle.format.proofs.float_at.Statement.{statement}
use Rattle.format.proofs.float_at.Tie as tie

number-at-requires : tie.Need-number_at-bits-requires
number-at-requires c κs = search rules

returns : tie.Need-returns-then-bits-gt2139095040
unfolding float_at div of_bits
returns c = sym (ap (of_bits binary32) (sym c.before.number_at-bits.ensures) ∙ above c.before.number_at-bits.result c.if-bits-gt2139095040.true)

float-from-bits-result : tie.Need-float_from_bits-result
float-from-bits-result c = not_above c.before.number_at-bits.result c.if-bits-gt2139095040.false

returns-2 : tie.Need-returns
unfolding float_at
returns-2 c = ap (of_bits binary32) c.before.number_at-bits.ensures

pub float_at_spec : {M : Type 1} → statement M
float_at_spec = tie.close (tie.spec number-at-requires returns float-from-bits-result returns-2)
