-- The lesser of two numbers is not above either, and a number that is not above either is not above it; and so with the greater.
use mathlib.Core.Path.{◌≡◌, refl}
use mathlib.Core.Bool.{Bool, true, false}
use lib.IntN.{ℤ}
use lib.Signed.{◌≤ℤ◌, ◌<ℤ◌, lt_z}
use Rattle.std.specs.Int.{int_min, int_max}
use Rattle.std.specs.Prelude.{cond}
use Rattle.whole.specs.Choice.{when◌then◌else◌}
use Rattle.whole.specs.Extremes.{lesser, greater}
use Rattle.whole.proofs.Order.{zarith}
use Rattle.whole.proofs.Comparisons.{lt_yes, lt_no}

module _ {a b r : ℤ} where
  pub lesser_below : r ≡ lesser a b → (r ≤ℤ a) × (r ≤ℤ b)
  unfolding lesser
  lesser_below e = go (lt_z b a) refl e
    where
      go : (t : Bool) → lt_z b a ≡ t → r ≡ (when t then b else a) → (r ≤ℤ a) × (r ≤ℤ b)
      go true t e = let is : r ≡ b = e in let l : b <ℤ a = lt_yes refl refl t in (omega zarith, omega zarith)
      go false t e = let is : r ≡ a = e in let l : a ≤ℤ b = lt_no refl refl t in (omega zarith, omega zarith)

  pub lesser_least : r ≡ lesser a b → (c : ℤ) → c ≤ℤ a → c ≤ℤ b → c ≤ℤ r
  unfolding lesser
  lesser_least e c = go (lt_z b a) e
    where
      go : (t : Bool) → r ≡ (when t then b else a) → c ≤ℤ a → c ≤ℤ b → c ≤ℤ r
      go true e h k = let is : r ≡ b = e in omega zarith
      go false e h k = let is : r ≡ a = e in omega zarith

  pub greater_above : r ≡ greater a b → (a ≤ℤ r) × (b ≤ℤ r)
  unfolding greater
  greater_above e = go (lt_z a b) refl e
    where
      go : (t : Bool) → lt_z a b ≡ t → r ≡ (when t then b else a) → (a ≤ℤ r) × (b ≤ℤ r)
      go true t e = let is : r ≡ b = e in let l : a <ℤ b = lt_yes refl refl t in (omega zarith, omega zarith)
      go false t e = let is : r ≡ a = e in let l : b ≤ℤ a = lt_no refl refl t in (omega zarith, omega zarith)

  pub greater_least : r ≡ greater a b → (c : ℤ) → a ≤ℤ c → b ≤ℤ c → r ≤ℤ c
  unfolding greater
  greater_least e c = go (lt_z a b) e
    where
      go : (t : Bool) → r ≡ (when t then b else a) → a ≤ℤ c → b ≤ℤ c → r ≤ℤ c
      go true e h k = let is : r ≡ b = e in omega zarith
      go false e h k = let is : r ≡ a = e in omega zarith

-- std's words for the same
pub min_is : (a b : ℤ) → int_min a b ≡ lesser a b
unfolding lesser
min_is a b = go (lt_z b a)
  where
    go : (t : Bool) → cond t b a ≡ (when t then b else a)
    go true = refl
    go false = refl

pub max_is : (a b : ℤ) → int_max a b ≡ greater a b
unfolding greater
max_is a b = go (lt_z b a) (lt_z a b) refl refl
  where
    go : (s t : Bool) → lt_z b a ≡ s → lt_z a b ≡ t → cond s a b ≡ (when t then b else a)
    go true true p q = let h : b <ℤ a = lt_yes refl refl p in let k : a <ℤ b = lt_yes refl refl q in omega zarith
    go true false p q = refl
    go false true p q = refl
    go false false p q = let h : a ≤ℤ b = lt_no refl refl p in let k : b ≤ℤ a = lt_no refl refl q in omega zarith
