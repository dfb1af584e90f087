-- The answer of a comparison, as the order of the cross products; and whether two fractions are equal, as an equation of them.
use mathlib.Core.Path.{◌≡◌, refl}
use mathlib.Core.Bool.{Bool, true, false, not, ◌||◌}
use lib.IntN.{◌*ℤ◌}
use lib.Signed.{◌≤ℤ◌, ◌<ℤ◌, lt_z_yes, lt_z_no}
use Rattle.whole.proofs.Comparisons.{true-T, false-T, ff_tt, tt_ff}
use Rattle.whole.proofs.Order.{zarith, ≤_antisym}
use Rattle.fraction.specs.Fraction.{less_than, equal_to}
use Rattle.fraction.specs.declared.Fraction.{Fraction}

module _ (f g : Fraction) where
  pub less_taken : less_than f g ≡ true → (f.num *ℤ g.den) <ℤ (g.num *ℤ f.den)
  unfolding less_than
  less_taken e = lt_z_yes (true-T e)

  pub less_left : less_than f g ≡ false → (g.num *ℤ f.den) ≤ℤ (f.num *ℤ g.den)
  unfolding less_than
  less_left e = lt_z_no (false-T e)

-- ---- neither is less
module _ (f g : Fraction) where
  pub equal_taken : equal_to f g ≡ true → f.num *ℤ g.den ≡ g.num *ℤ f.den
  unfolding equal_to
  equal_taken e = go (less_than f g) (less_than g f) refl refl e
    where
      go : (a b : Bool) → less_than f g ≡ a → less_than g f ≡ b → not (a || b) ≡ true → f.num *ℤ g.den ≡ g.num *ℤ f.den
      go true b p q h = absurd (ff_tt h)
      go false true p q h = absurd (ff_tt h)
      go false false p q h = ≤_antisym (less_left g f q) (less_left f g p)

  pub equal_left : equal_to f g ≡ false → f.num *ℤ g.den ≡ g.num *ℤ f.den → ⊥
  unfolding equal_to
  equal_left e h = go (less_than f g) (less_than g f) refl refl e
    where
      go : (a b : Bool) → less_than f g ≡ a → less_than g f ≡ b → not (a || b) ≡ false → ⊥
      go true b p q n = let l = less_taken f g p in omega zarith
      go false true p q n = let l = less_taken g f q in omega zarith
      go false false p q n = tt_ff n
