-- The two numbers of a fraction of the stroke's way, as the code casts them, are those numbers; so what is rounded by them is the stroke's point there.
use mathlib.Core.Path.{◌≡◌, transport, ◌∙◌}
use Prim.Native.Nat.{ℕ, ◌<◌, ◌≤◌}
use native.Mathlib.Omega.{arith}
use lib.Dec.{T}
use lib.IntN.{ℤ, pos, nat_abs}
use lib.Signed.{non_neg}
use mir.Syntax.{w32, w64}
use mir.Val.{SFits, Fits, to_z}
use mir.Facts.{to_z_pos}
use Rattle.whole.specs.Within.{Within}
use Rattle.whole.proofs.Comparisons.{cast_unsigned, cast_is}
use Rattle.whole.proofs.Order.{zarith, <→≤}
use Rattle.whole.proofs.Ranges.{within_abs, fits_abs}
use Rattle.fraction.specs.Rounding.{along, Rounded}
use Rattle.grid.specs.Table.{farthest}
use Rattle.spans.proofs.Parts.{time_within}
use Rattle.strokes.specs.Workers.{OnWay}
use Rattle.strokes.proofs.Reading.{read, rounded_plain}
use Rattle.cross_product.specs.Workers.{part_way}

abbrev pub cast : ℤ → ℕ
cast z = nat_abs (read z)

number_fits : {z : ℤ} → Within 32766 z → SFits w32 z
number_fits h = fits_abs (omega (arith, within_abs h))

module _ {n d : ℤ} (way : OnWay (part_way n d)) where
  num_small : Within 32766 n
  num_small = time_within way.time way.small

  pub num_cast : T (non_neg (read n)) × Fits w32 (cast n)
  num_cast = cast_unsigned w32 (number_fits num_small) way.time.low w32 (omega (arith, within_abs num_small))

  pub den_cast : T (non_neg (read d)) × Fits w32 (cast d)
  den_cast = cast_unsigned w32 (number_fits way.small) (<→≤ way.time.den) w32 (omega (arith, within_abs way.small))

  num_is : pos (cast n) ≡ n
  num_is = cast_is w32 (number_fits num_small) way.time.low

  den_is : pos (cast d) ≡ d
  den_is = cast_is w32 (number_fits way.small) (<→≤ way.time.den)

  pub num_range : cast n ≤ cast d
  num_range = omega (zarith, num_is, den_is, way.time.high)

  pub den_range : (0 < cast d) × (cast d ≤ 32766)
  den_range = (omega (zarith, den_is, way.time.den), omega (zarith, den_is, way.small.high))

  -- in 64 bits
  pub num_wide : to_z w64 (cast n) ≡ n
  num_wide = to_z_pos w64 (omega (arith, num_range, den_range.1)) ∙ num_is

  pub den_wide : to_z w64 (cast d) ≡ d
  den_wide = to_z_pos w64 (omega (arith, den_range.1)) ∙ den_is

  pub rounded_there : {a b r : ℤ} → Within farthest a → Within farthest b → Rounded (along (read a) (read b) (pos (cast n)) (pos (cast d))) (pos (cast d)) r
      → Rounded (along a b n d) d r
  rounded_there {a} {b} {r} ha hb k = transport (λ i. Rounded (along a b (num_is i) (den_is i)) (den_is i) r) (rounded_plain (pos (cast n)) ha hb k)
