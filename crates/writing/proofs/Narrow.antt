-- A number of 64 bits that fits 32 bits is, cast to 32, what it was.
use mathlib.Core.Path.{◌≡◌, sym, ◌∙◌, subst}
use lib.IntN.{ℤ}
use mir.Syntax.{w32, w64}
use mir.Val.{SFits, to_z, of_z}
use mir.Facts.{to_z-of_z, sfits_widen}

module _ {z : ℤ} (f : SFits w32 z) where
  read : to_z w64 (of_z w64 z) ≡ z
  read = to_z-of_z {w = w64} (sfits_widen {w = w32} tt f)

  pub narrow_fits : SFits w32 (to_z w64 (of_z w64 z))
  narrow_fits = subst (SFits w32) (sym read) f

  pub narrow_is : to_z w32 (of_z w32 (to_z w64 (of_z w64 z))) ≡ z
  narrow_is = to_z-of_z narrow_fits ∙ read
