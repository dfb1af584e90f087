-- Lowest terms and rounding as functions, so that examples compute.
use mathlib.Core.Path.{◌≡◌, subst}
use Prim.Native.Nat.{ℕ, zero, suc, ◌%◌, ◌≤◌}
use native.Mathlib.Nat.{mod-lt}
use native.Mathlib.Omega.{arith}
use lib.IntN.{ℤ, pos, negsuc, nat_abs}
use lib.Signed.{◌<ℤ◌, quot_z}
use Rattle.whole.specs.Rounding.{to_even}
use Rattle.whole.proofs.Order.{zarith}
use Rattle.whole.proofs.Rounding.{rounding, rounding_is}
use Rattle.fraction.specs.Fraction.{GreatestCommon, LowestOf}
use Rattle.fraction.specs.Rounding.{along, Rounded}
use Rattle.fraction.specs.declared.Fraction.{Fraction}
use Rattle.fraction.proofs.Divisors.{SameDivisors, same_start, same_step, same_end}
use Rattle.fraction.proofs.LowestTerms.{reduction}

-- ---- Euclid's rule, at most k steps of it
unfoldable pub euclid : ℕ → ℕ → ℕ → ℕ
euclid zero a b = a
euclid (suc k) a b = elim b [ zero ↦ a | suc c ↦ euclid k (suc c) (a % suc c) ]

euclid_is : (k a b m n : ℕ) → n ≤ k → SameDivisors a b m n → GreatestCommon a b (euclid k m n)
unfolding euclid
euclid_is zero a b m n h s = let e : n ≡ 0 = omega arith in same_end (subst (SameDivisors a b m) e s)
euclid_is (suc k) a b m n h s = go n h s (λ c l r. euclid_is k a b (suc c) (m % suc c) l r)
  where
    go : (n : ℕ) → n ≤ suc k → SameDivisors a b m n
        → ((c : ℕ) → m % suc c ≤ k → SameDivisors a b (suc c) (m % suc c) → GreatestCommon a b (euclid k (suc c) (m % suc c)))
        → GreatestCommon a b (elim n [ zero ↦ m | suc c ↦ euclid k (suc c) (m % suc c) ])
    go zero h s f = same_end s
    go (suc c) h s f = f c (omega (arith, mod-lt m {m = suc c} (omega arith))) (same_step s)

unfoldable pub lowest_of : ℤ → ℤ → Fraction
lowest_of n d = let g = euclid (nat_abs d) (nat_abs n) (nat_abs d) in record { num = quot_z n (pos g); den = quot_z d (pos g) }

pub lowest_of_is : (n : ℤ) {d : ℤ} → pos 0 <ℤ d → LowestOf n d (lowest_of n d)
unfolding lowest_of
lowest_of_is n {d} h =
    (reduction n d h (euclid_is (nat_abs d) (nat_abs n) (nat_abs d) (nat_abs n) (nat_abs d) (omega arith) (same_start (nat_abs n) (nat_abs d)))).answer

-- ---- the coordinate at n/d of the way from a to b, rounded
unfoldable pub rounded_at : ℤ → ℤ → ℤ → ℤ → ℤ
rounded_at a b n d = rounding to_even (along a b n d) (nat_abs d)

pub rounded_at_is : (a b n : ℤ) {d : ℤ} → pos 0 <ℤ d → Rounded (along a b n d) d (rounded_at a b n d)
unfolding rounded_at
rounded_at_is a b n {d = pos d} h = rounding_is to_even (along a b n (pos d)) (omega zarith)
rounded_at_is a b n {d = negsuc d} h = absurd h.lt
