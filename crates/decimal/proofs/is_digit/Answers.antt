-- The library's digits are those of the definition.
use Rattle.decimal.specs.Decimals.{is_digit}
use Rattle.decimal.proofs.is_digit.Goals as goal

pub returns : goal.returns
unfolding is_digit
returns c = c.is_ascii_digit.ensures.value
