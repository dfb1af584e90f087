-- Numbers of the table as the machine reads them: each is itself, so what is said of the ones is said of the others.
use mathlib.Core.Path.{◌≡◌, sym, transport}
use Prim.Native.Nat.{◌<◌, ◌^◌}
use native.Mathlib.Omega.{arith}
use lib.IntN.{ℤ}
use lib.Signed.{mag}
use mir.Syntax.{w32}
use mir.Val.{SFits, to_z, of_z}
use mir.Facts.{to_z-of_z}
use Rattle.whole.specs.Within.{Within}
use Rattle.whole.proofs.Comparisons.{back, bits}
use Rattle.whole.proofs.Ranges.{within_abs, fits_abs}
use Rattle.fraction.specs.Rounding.{along, Rounded}
use Rattle.grid.specs.Table.{farthest}
use Rattle.strokes.specs.declared.ways.Way.{Way}
use Rattle.strokes.specs.Workers.{Ranged, Risen, Fallen, WayOf}

pub table_fits : {z : ℤ} → Within farthest z → SFits w32 z
table_fits h = fits_abs (omega (arith, within_abs h))

abbrev pub read : ℤ → ℤ
read z = to_z w32 (of_z w32 z)

pub read_is : {z : ℤ} → Within farthest z → read z ≡ z
read_is h = to_z-of_z (table_fits h)

pub read_on_table : {z : ℤ} → Within farthest z → Within farthest (read z)
read_on_table h = bits (Within farthest) (table_fits h) h

-- what is rounded
pub rounded_plain : {a b d r : ℤ} (n : ℤ) → Within farthest a → Within farthest b → Rounded (along (read a) (read b) n d) d r → Rounded (along a b n d) d r
rounded_plain {a} {b} {d} {r} n ha hb k = transport (λ i. Rounded (along (read_is ha i) (read_is hb i) n d) d r) k

-- four of them, for the places of a way
pub ranged_read : {a b c d : ℤ} → Ranged a b c d → Ranged (read a) (read b) (read c) (read d)
ranged_read k = transport (λ i. Ranged (sym (read_is k.a_on) i) (sym (read_is k.b_on) i) (sym (read_is k.c_on) i) (sym (read_is k.d_on) i)) k

pub risen_plain : {a b c d : ℤ} {r : Way} → Ranged a b c d → Risen (read a) (read b) (read c) (read d) r → Risen a b c d r
risen_plain {r = r} k h = transport (λ i. Risen (read_is k.a_on i) (read_is k.b_on i) (read_is k.c_on i) (read_is k.d_on i) r) h

pub fallen_plain : {a b c d : ℤ} {r : Way} → Ranged a b c d → Fallen (read d) (read c) (read b) (read a) r → Fallen d c b a r
fallen_plain {r = r} k h = transport (λ i. Fallen (read_is k.d_on i) (read_is k.c_on i) (read_is k.b_on i) (read_is k.a_on i) r) h

-- four that a window and a stroke hold, on the table or off it
pub four_plain : {a b c d : ℤ} (P : ℤ → ℤ → ℤ → ℤ → Type 0) → mag a < 2 ^ 31 → mag b < 2 ^ 31 → mag c < 2 ^ 31 → mag d < 2 ^ 31
    → P (read a) (read b) (read c) (read d) → P a b c d
four_plain {a} {b} {c} {d} P ha hb hc hd k = transport (λ i. P (back w32 a ha i) (back w32 b hb i) (back w32 c hc i) (back w32 d hd i)) k

-- and for a way between two sides
module _ {lo hi a b : ℤ} (wl : Within farthest lo) (wh : Within farthest hi) (wa : Within farthest a) (wb : Within farthest b) where
  pub way_plain : {r : Way} → WayOf (read lo) (read hi) (read a) (read b) r → WayOf lo hi a b r
  way_plain {r} k = transport (λ i. WayOf (read_is wl i) (read_is wh i) (read_is wa i) (read_is wb i) r) k
