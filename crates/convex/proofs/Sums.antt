-- Sums of ones and noughts: what they count happens once exactly where the sum is 1.
use mathlib.Core.Path.{◌≡◌, refl, subst}
use mathlib.Core.Logic.{◌≢◌}
use Prim.Native.Nat.{ℕ, zero, suc, ◌+◌, ◌≤◌, ◌<◌}
use native.Mathlib.Omega.{arith}
use native.Mathlib.Decide.{ℕ_discrete}
use borrow.Author.Count.{below_more}
use Rattle.rings.proofs.Rises.{Once}

abbrev pub sum : ℕ → (ℕ → ℕ) → ℕ
sum zero f = 0
sum (suc n) f = sum n f + f n

pub sum_most : (f : ℕ → ℕ) → ((i : ℕ) → f i ≤ 1) → (n : ℕ) → sum n f ≤ n
sum_most f h zero = omega arith
sum_most f h (suc n) = omega (arith, sum_most f h n, h n)

-- 1 where A holds, and 0 where it does not
pub data Counts (A : Type 0) : ℕ → Type 0 where
  one : A → Counts A 1
  none : (A → ⊥) → Counts A 0

module _ {A : ℕ → Type 0} (f : ℕ → ℕ) (c : (i : ℕ) → Counts (A i) (f i)) where
  sum_never : (n : ℕ) → sum n f ≡ 0 → (i : ℕ) → i < n → A i → ⊥
  sum_never zero e i h = absurd (omega arith)
  sum_never (suc n) e i h = below_more (λ (i : ℕ). A i → ⊥) n (sum_never n (omega arith)) (go (c n) (omega arith)) i (omega arith)
    where
      go : {m : ℕ} → Counts (A n) m → m ≡ 0 → A n → ⊥
      go (one a) z = absurd (omega arith)
      go (none d) z = d

  never_sum : (n : ℕ) → ((i : ℕ) → i < n → A i → ⊥) → sum n f ≡ 0
  never_sum zero h = refl
  never_sum (suc n) h = omega (arith, never_sum n (λ i l. h i (omega arith)), go (c n))
    where
      go : {m : ℕ} → Counts (A n) m → m ≡ 0
      go (one a) = absurd (h n (omega arith) a)
      go (none d) = refl

  pub sum_once : (n : ℕ) → sum n f ≡ 1 → Once n A
  sum_once zero e = absurd (omega arith)
  sum_once (suc n) e = go (c n) e (sum_once n)
    where
      go : {m : ℕ} → Counts (A n) m → sum n f + m ≡ 1 → (sum n f ≡ 1 → Once n A) → Once (suc n) A
      go (one a) z earlier = record { k = n; below = omega arith; holds = a; only = λ i l d. sum_never n (omega arith) i (omega arith) }
      go (none d) z earlier =
          let o = earlier (omega arith) in record {
            k = o.k;
            below = omega (arith, o.below);
            holds = o.holds;
            only = λ i l m. below_more (λ (i : ℕ). i ≢ o.k → A i → ⊥) n o.only (λ m. d) i (omega arith) m;
          }

  pub once_sum : (n : ℕ) → Once n A → sum n f ≡ 1
  once_sum zero o = absurd (omega (arith, o.below))
  once_sum (suc n) o = go (c n) (ℕ_discrete o.k n) (once_sum n)
    where
      go : {m : ℕ} → Counts (A n) m → Dec (o.k ≡ n) → (Once n A → sum n f ≡ 1) → sum n f + m ≡ 1
      go (one a) (yes e) earlier = omega (arith, never_sum n (λ i l. o.only i (omega arith) (omega arith)))
      go (one a) (no d) earlier = absurd (o.only n (omega arith) (omega arith) a)
      go (none d) (yes e) earlier = absurd (d (subst A e o.holds))
      go (none d) (no k) earlier =
          omega (arith, earlier (record { k = o.k; below = omega (arith, o.below); holds = o.holds; only = λ i l m. o.only i (omega arith) m }))
