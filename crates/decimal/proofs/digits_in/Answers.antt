-- The digits end at the first byte that is none, or with the text.
use Rattle.std.proofs.Common.{arith}
use borrow.Author.Rules.{rules}
use Rattle.decimal.specs.Decimals.{is_digit}
use Rattle.text.proofs.Runs.{run_is}
use Rattle.decimal.proofs.digits_in.Goals as goal

pub returns-in-Some : goal.returns-in-Some
returns-in-Some c = run_is is_digit c.args.text.now c.in-Some.place (search rules) (search rules) (search rules)

pub returns-in-None : goal.returns-in-None
returns-in-None c = run_is is_digit c.args.text.now _ (omega arith) (search rules) (λ h. absurd (omega arith))
