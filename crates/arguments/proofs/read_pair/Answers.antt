-- Eight numbers are a window and a stroke, and no other count of them is.
use native.Mathlib.Omega.{arith}
use Rattle.arguments.proofs.Numbers.{other_count, no_numbers}
use Rattle.arguments.proofs.read_pair.Goals as goal

pub returns-in_err-read_numbers : goal.returns-in_err-read_numbers
returns-in_err-read_numbers c = rw c.from_residual.ensures (no_numbers c.args.rest.now c.read_numbers.new.numbers (omega arith) c.in_err-read_numbers.ensures.numbers)

pub returns-then-branch-ne8 : goal.returns-then-branch-ne8
returns-then-branch-ne8 c = other_count c.args.rest.now c.read_numbers.new.numbers (omega arith) _ c.in_ok-read_numbers.ensures.numbers c.if-branch-ne8.true
