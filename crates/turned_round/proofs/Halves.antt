-- A half goes to the even number: it is rounded to n or to n + 1, and the rule says which of them is even.
use mathlib.Core.Path.{◌≡◌}
use mathlib.Core.List.{[], ◌∷◌}
use mathlib.Core.Logic.{⊎_elim}
use Prim.Native.Nat.{◌/◌, ◌%◌}
use native.Mathlib.Omega.{arith}
use borrow.Author.Tests.{eqb-true, eqb-false}
use lib.IntN.{ℤ, pos, negsuc, nat_abs, ◌+ℤ◌, ◌-ℤ◌}
use lib.Signed.{◌≤ℤ◌, ◌<ℤ◌}
use Rattle.whole.specs.Rounding.{to_even}
use Rattle.whole.proofs.Certificates.{ge_by, eqn, ◌⊹◌, eq_by, eq, po, le, nat⁺, ◌⊞◌, ◌⊠◌}
use Rattle.whole.proofs.Expressions.{Env, Expr, con, ◌⊕◌, ◌⊗◌, x0, x1, x2, x3}
use Rattle.whole.proofs.Naturals.{abs_is}
use Rattle.whole.proofs.Order.{zarith, sub_is, next-≤, ≤_antisym, ≤_total}
use Rattle.fraction.specs.Fraction.{Divides}
use Rattle.fraction.proofs.Divisors.{abs_divides}
use Rattle.turned_round.specs.Laws.{HalvesToEven}

even : (r : ℤ) → nat_abs r % 2 ≡ 0 → Divides 2 r
even r e = abs_divides r (record { times = pos (nat_abs r / 2); is = omega zarith })

abbrev one : Expr
one = con (pos 1)

abbrev two : Expr
two = con (pos 2)

-- twice n and a half
abbrev odd : Expr
odd = two ⊗ x0 ⊕ one

pub halves_to_even : HalvesToEven
unfolding to_even
halves_to_even n x d r h e p = ⊎_elim stays goes (≤_total r n)
  where
    ρ : Env
    ρ = n ∷ x ∷ d ∷ r ∷ []

    stays : r ≤ℤ n → Divides 2 r
    stays l =
        let low : n ≤ℤ r = ge_by ρ (nat⁺ 1 ⊠ po x2 h) x0 x3
        (le (two ⊗ x1) (two ⊗ (x3 ⊗ x2) ⊕ x2) p.nearest.high ⊞ eq one (two ⊗ x1) (odd ⊗ x2) e) tt in
        let same : r ≡ n = ≤_antisym l low in
        let half = eq_by ρ (two ⊗ x1) (two ⊗ (x3 ⊗ x2) ⊕ x2) (eqn one (two ⊗ x1) (odd ⊗ x2) e ⊹ eqn (con (negsuc 1) ⊗ x2) x3 x0 same) tt in
        even r (omega (arith, eqb-false (nat_abs r % 2) 1 (p.below half)))

    goes : n <ℤ r → Divides 2 r
    goes l =
        let high : r ≤ℤ (n +ℤ pos 1) = ge_by ρ (nat⁺ 1 ⊠ po x2 h) x3 (x0 ⊕ one)
        (le (two ⊗ (x3 ⊗ x2)) (two ⊗ x1 ⊕ x2) p.nearest.low ⊞ eq (con (negsuc 0)) (two ⊗ x1) (odd ⊗ x2) e) tt in
        let next : r ≡ n +ℤ pos 1 = ≤_antisym high (next-≤ l) in
        let half = eq_by ρ (two ⊗ (x3 ⊗ x2)) (two ⊗ x1 ⊕ x2) (eqn (con (negsuc 0)) (two ⊗ x1) (odd ⊗ x2) e ⊹ eqn (two ⊗ x2) x3 (x0 ⊕ one) next) tt in
        even r (omega (arith, eqb-true (nat_abs (r -ℤ pos 1) % 2) 1 (p.above half), abs_is r, abs_is (r -ℤ pos 1), sub_is r (pos 1)))
