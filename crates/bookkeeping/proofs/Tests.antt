-- Tests over a list, by the places of its members: a test that all pass is passed at each place, and one that not all pass is failed at one.
use mathlib.Core.Path.{◌≡◌, refl}
use mathlib.Core.Bool.{Bool, true, false, not, ◌&&◌, ◌||◌, and-eq-true_iff}
use mathlib.Core.List.{List, [], ◌∷◌}
use Prim.Native.Nat.{ℕ, zero, suc, ◌<◌}
use native.Mathlib.Omega.{arith}
use lib.ListN.{length, get_or}
use Rattle.whole.proofs.Comparisons.{tt_ff}
use Rattle.racks.specs.Members.{any, all}

module _ {A : Type 0} (P : A → Bool) (d : A) where
  pub all_at : (xs : List A) → all P xs ≡ true → P d ≡ true → (k : ℕ) → P (get_or xs k d) ≡ true
  unfolding all
  all_at [] e h k = h
  all_at (x ∷ xs) e h zero = ((and-eq-true_iff (P x) (all P xs)).0 e).0
  all_at (x ∷ xs) e h (suc k) = all_at xs ((and-eq-true_iff (P x) (all P xs)).0 e).1 h k

  pub not_all : (xs : List A) → all P xs ≡ false → (k : ℕ) × (k < length xs) × (P (get_or xs k d) ≡ false)
  unfolding all
  not_all [] e = absurd (tt_ff e)
  not_all (x ∷ xs) e = go (P x) refl e (not_all xs)
    where
      go : (b : Bool) → P x ≡ b → (b && all P xs) ≡ false → (all P xs ≡ false → (k : ℕ) × (k < length xs) × (P (get_or xs k d) ≡ false))
          → (k : ℕ) × (k < suc (length xs)) × (P (get_or (x ∷ xs) k d) ≡ false)
      go true p e f = let k = f e in (suc k.0, omega arith, k.2)
      go false p e f = (0, omega arith, p)

-- one passes where not all fail
pub any_is : {A : Type 0} (P : A → Bool) (xs : List A) → any P xs ≡ not (all (λ x. not (P x)) xs)
unfolding any all
any_is P [] = refl
any_is P (x ∷ xs) = go (P x) (any_is P xs)
  where
    go : (b : Bool) → any P xs ≡ not (all (λ x. not (P x)) xs) → (b || any P xs) ≡ not (not b && all (λ x. not (P x)) xs)
    go true e = refl
    go false e = e
