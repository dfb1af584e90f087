-- `fraction::lowest_small` meets its contract: both numbers are divided by their greatest common divisor; by 1 that changes nothing. Assumes nothing.
use mathlib.Core.Path.{◌≡◌, sym, ap, subst₂, ◌∙◌}
use Prim.Native.Nat.{ℕ, ◌/◌, ◌<◌, ◌^◌}
use native.Mathlib.Nat.{div-le_self, div-one}
use native.Mathlib.Omega.{arith}
use borrow.Author.Rules.{rules}
use lib.IntN.{ℤ, pos}
use mir.Syntax.{w64}
use mir.Val.{to_z}
use mir.Facts.{to_z_pos}
use Rattle.whole.proofs.Order.{zarith}
use Rattle.fraction.specs.Fraction.{LowestOf}
use Rattle.fraction.proofs.Divisors.{common_swap}
use Rattle.fraction.proofs.LowestTerms.{Reduction, reduction}
use Rattle.fraction.proofs.lowest_small.Statement.{statement}
use Rattle.fraction.proofs.lowest_small.Tie as tie

reduced : (c : tie.After-common-divisor) → Reduction (pos c.before.args.n) (pos c.before.args.d) c.common-divisor.result
reduced c = reduction (pos c.before.args.n) (pos c.before.args.d) (let h = c.before.requires in omega zarith) (common_swap c.common-divisor.ensures)

-- a number of 32 bits is itself in 64
wide : {k : ℕ} → k < 2 ^ 32 → to_z w64 k ≡ pos k
wide {k} h = to_z_pos w64 (omega arith)

common-requires : tie.Need-common-divisor-requires
common-requires c κs = search rules

cast-t5 : tie.Need-overflow_cast-result
cast-t5 c = search rules

cast-t6 : tie.Need-overflow_cast-result-then-divisor-eq1
cast-t6 c = search rules

-- what is answered, once its two numbers are the quotients
answered : (c : tie.After-common-divisor) {a b : ℤ} → let s = c.before.args in
    a ≡ pos (s.n / c.common-divisor.result) → b ≡ pos (s.d / c.common-divisor.result) → LowestOf (pos s.n) (pos s.d) (record { num = a; den = b })
answered c p q = subst₂ (λ (a b : ℤ). LowestOf (pos c.before.args.n) (pos c.before.args.d) (record { num = a; den = b })) (sym p) (sym q) (reduced c).answer

by_one : (c : tie.Then-divisor-eq1) {k : ℕ} → k < 2 ^ 32 → to_z w64 k ≡ pos (k / c.before.common-divisor.result)
by_one c {k} h = wide h ∙ ap pos (sym (ap (λ (g : ℕ). k / g) c.if-divisor-eq1.true ∙ div-one k))

returns : tie.Need-returns-then-divisor-eq1
returns c = let s = c.before.before in answered c.before (by_one c s.ranges.n.fits) (by_one c s.ranges.d.fits)

-- a quotient is no larger
small : (c : tie.Else-divisor-eq1) {k : ℕ} → k < 2 ^ 32 → k / c.before.common-divisor.result < 2 ^ 32
small c {k} h = omega (arith, div-le_self k c.before.common-divisor.result)

div-t7 : tie.Need-nonzero_div-result
div-t7 c = (reduced c.before).positive

cast-t8 : tie.Need-overflow_cast-result-2
cast-t8 c = record { sfits = omega (arith, small c c.before.before.ranges.n.fits) }

div-t9 : tie.Need-nonzero_div-result-2
div-t9 c = (reduced c.before).positive

cast-t10 : tie.Need-overflow_cast-result-3
cast-t10 c = record { sfits = omega (arith, small c c.before.before.ranges.d.fits) }

returns-2 : tie.Need-returns
returns-2 c = let s = c.before.before in answered c.before (wide (small c s.ranges.n.fits)) (wide (small c s.ranges.d.fits))

pub lowest_small_spec : {M : Type 1} → statement M
lowest_small_spec = tie.close (tie.spec common-requires cast-t5 cast-t6 returns div-t7 cast-t8 div-t9 cast-t10 returns-2)
