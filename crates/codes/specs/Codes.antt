-- Position codes of a stroke's points, and the decision for the codes of its two ends.
--   past w s k f   how far the stroke's point at the fraction f of its way lies past the side k, times f's denominator:
--                  beyond the side where positive, on its line where 0
--   bit w s k f    the bit of the side k in the point's code: set where the point lies beyond the side. A point on the border is inside
--   code w s f     the point's code, its four bits joined by or
--   keep, missed, shorten_start n, shorten_end n   the decisions, by number; n is the place of the side to shorten at
--   lowest_bit a    the place of the lowest set bit of a code: that of the side to shorten at
--   decision a b   the decision for the codes a of the start and b of the end
use Rattle.std.specs.Prelude.{not, ℕ, ◌+◌, ◌^◌, eqb, ℤ, pos, ◌-ℤ◌, ◌*ℤ◌}
use Rattle.std.specs.Int.Bits.{bit_and, bit_or}
use Rattle.std.specs.Int.Count.{count_trailing_zeros}
use Rattle.std.specs.Int.Signed.{lt_z}
use Rattle.whole.specs.Choice.{when◌then◌else◌}
use Rattle.fraction.specs.declared.Fraction.{Fraction}
use Rattle.fraction.specs.Rounding.{along}
use Rattle.grid.specs.declared.Stroke.{Stroke}
use Rattle.grid.specs.declared.Window.{Window}
use Rattle.grid.specs.Sides.{Side, left, right, bottom, top, place_of}

abbrev pub past : Window → Stroke → Side → Fraction → ℤ
past w s left f = w.left *ℤ f.den -ℤ along s.x1 s.x2 f.num f.den
past w s right f = along s.x1 s.x2 f.num f.den -ℤ w.right *ℤ f.den
past w s bottom f = w.bottom *ℤ f.den -ℤ along s.y1 s.y2 f.num f.den
past w s top f = along s.y1 s.y2 f.num f.den -ℤ w.top *ℤ f.den

abbrev pub bit : Window → Stroke → Side → Fraction → ℕ
bit w s k f = when lt_z (pos 0) (past w s k f) then 2 ^ place_of k else 0

unfoldable pub code : Window → Stroke → Fraction → ℕ
code w s f = bit_or (bit_or (bit w s left f) (bit w s right f)) (bit_or (bit w s bottom f) (bit w s top f))

abbrev pub keep : ℕ
keep = 0

abbrev pub missed : ℕ
missed = 1

abbrev pub shorten_start : ℕ → ℕ
shorten_start n = 2 + n

abbrev pub shorten_end : ℕ → ℕ
shorten_end n = 6 + n

abbrev pub lowest_bit : ℕ → ℕ
lowest_bit a = count_trailing_zeros 8 a

unfoldable pub decision : ℕ → ℕ → ℕ
decision a b =
    when eqb (bit_or a b) 0 then keep
    else when not (eqb (bit_and a b) 0) then missed
    else when not (eqb a 0) then shorten_start (lowest_bit a)
    else shorten_end (lowest_bit b)
