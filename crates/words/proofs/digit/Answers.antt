-- The library's digits of a base to 16 are those of `digit_of`.
use Rattle.words.proofs.Digits.{same_digit}
use Rattle.words.proofs.digit.Goals as goal

pub returns : goal.returns
returns c = same_digit c.to_digit.result c.args.b c.args.base c.requires.upper_bound c.to_digit.ensures.value
