-- `fraction::common` meets its contract: each turn keeps the common divisors, and the second number falls. Assumes nothing.
use mathlib.Core.Path.{subst}
use Prim.Native.Nat.{◌%◌}
use native.Mathlib.Nat.{mod-lt}
use native.Mathlib.Omega.{arith}
use Rattle.fraction.proofs.Divisors.{SameDivisors, same_start, same_step, same_end}
use Rattle.fraction.proofs.common.Statement.{statement}
use Rattle.fraction.proofs.common.Tie as tie

abbrev invariant_loop : tie.invariant-loop-n
invariant_loop a b m₀ n₀ m n = SameDivisors a b m n

abbrev decreases_loop : tie.decreases-loop-n
decreases_loop a b m₀ n₀ m n = n

loop-holds : tie.Need-loop-n-init invariant_loop decreases_loop
loop-holds c = same_start _ _

rem-m : tie.Need-nonzero_rem-m invariant_loop decreases_loop
rem-m c = omega arith

returns : tie.Need-returns-then-m-eq0 invariant_loop decreases_loop
returns c = same_end (subst (SameDivisors _ _ _) c.if-m-eq0.true (same_step c.before.before.loop-n.invariant))

rem-n : tie.Need-nonzero_rem-n invariant_loop decreases_loop
rem-n c = omega arith

loop-less : tie.Need-loop-n-smaller invariant_loop decreases_loop
loop-less c = let m = c.before.before.loop-n.m in let n = c.before.before.loop-n.n in
    omega (arith, mod-lt m {m = n} (omega arith), mod-lt n {m = m % n} (omega arith))

loop-again : tie.Need-loop-n-preserved invariant_loop decreases_loop
loop-again c = same_step (same_step c.before.before.loop-n.invariant)

returns-2 : tie.Need-returns invariant_loop decreases_loop
returns-2 c = same_end (subst (SameDivisors _ _ _) c.loop-n-test.false c.before.loop-n.invariant)

pub common_spec : {M : Type 1} → statement M
common_spec = tie.close (tie.spec invariant_loop decreases_loop loop-holds rem-m returns rem-n loop-less loop-again returns-2)
