-- `decimal::closest` meets its contract: twice the remainder, and one more where the quotient is odd, says which way is nearer. Assumes nothing.
use native.Mathlib.Nat.{mod-lt, div-le_self}
use native.Mathlib.Omega.{arith}
use borrow.Author.Rules.{rules}
use Rattle.whole.proofs.Rounding.{even_up, even_down}
use Rattle.decimal.proofs.closest.Statement.{statement}
use Rattle.decimal.proofs.closest.Tie as tie

div-quotient : tie.Need-nonzero_div-quotient
div-quotient c = search rules

rem-if1 : tie.Need-nonzero_rem-a
rem-if1 c = search rules

mul-if1 : tie.Need-overflow_mul-a
mul-if1 c = omega (arith, mod-lt c.args.a c.requires.0.0)

add-if1 : tie.Need-overflow_add-a
add-if1 c = omega (arith, mod-lt c.args.a c.requires.0.0)

add-result : tie.Need-overflow_add-result
add-result c = omega (arith, div-le_self c.before.args.a c.before.args.b)

returns : tie.Need-returns-then-b-a
returns c = even_up c.before.args.a c.before.requires.0.0 c.if-b-a.true

returns-2 : tie.Need-returns
returns-2 c = even_down c.before.args.a c.before.requires.0.0 c.if-b-a.false

pub closest_spec : {M : Type 1} → statement M
closest_spec = tie.close (tie.spec div-quotient rem-if1 mul-if1 add-if1 add-result returns returns-2)
