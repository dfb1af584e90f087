-- Numbers of 32 bits in 64 bits: they are what they were, and the products of two fit.
use mathlib.Core.Path.{◌≡◌, sym, ◌∙◌, subst}
use mathlib.Core.List.{[], ◌∷◌}
use Prim.Native.Nat.{◌<◌, ◌^◌}
use lib.IntN.{ℤ, ◌*ℤ◌}
use lib.Signed.{mag}
use mir.Syntax.{w32, w64}
use mir.Val.{SFits, to_z, of_z}
use mir.Facts.{to_z-of_z, sfits_widen}
use Rattle.whole.specs.Within.{Within}
use Rattle.whole.proofs.Expressions.{◌⊗◌, x0, x1}
use Rattle.whole.proofs.Order.{<→≤}
use Rattle.whole.proofs.Comparisons.{fits_low, fits_high, back}
use Rattle.whole.proofs.Ranges.{fits}

-- a number of 32 bits, cast to 64
abbrev pub wide : ℤ → ℤ
wide z = to_z w64 (of_z w64 (to_z w32 (of_z w32 z)))

pub within_32 : (z : ℤ) → mag z < 2 ^ 31 → Within 2147483648 z
within_32 z h = let f : SFits w32 z = record { sfits = h } in record { low = fits_low f; high = <→≤ (fits_high f) }

module _ (z : ℤ) (h : mag z < 2 ^ 31) where
  wide_fits : SFits w64 (to_z w32 (of_z w32 z))
  wide_fits = subst (SFits w64) (sym (back w32 z h)) (sfits_widen {w = w32} tt (record { sfits = h }))

  wide_is : wide z ≡ z
  wide_is = to_z-of_z wide_fits ∙ back w32 z h

module _ (x y : ℤ) (hx : mag x < 2 ^ 31) (hy : mag y < 2 ^ 31) where
  pub factors_are : wide x *ℤ wide y ≡ x *ℤ y
  factors_are = λ i. wide_is x hx i *ℤ wide_is y hy i

  product_fits : SFits w64 (wide x *ℤ wide y)
  product_fits = subst (SFits w64) (sym factors_are) (fits w64 (2147483648 ∷ 2147483648 ∷ []) (x ∷ y ∷ []) (within_32 x hx, (within_32 y hy, tt)) (x0 ⊗ x1) tt)

  pub product_is : to_z w64 (of_z w64 (wide x *ℤ wide y)) ≡ x *ℤ y
  product_is = to_z-of_z product_fits ∙ factors_are
