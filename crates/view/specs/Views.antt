-- What a picture must show.
--   around r x y             the least rectangle that holds r and the point x y
--   reach w xs n             the least rectangle that holds the strip w and the first n points of the list xs, two numbers each
--   apart a b                how far two numbers are apart
--   width r, height r        the sides of a rectangle
--   extent r                 the longer of them
use Rattle.std.specs.Prelude.{List, ℕ, zero, suc, ◌+◌, ◌*◌, ltb, ℤ, pos, nat_abs, ◌-ℤ◌, get_or}
use Rattle.whole.specs.Choice.{when◌then◌else◌}
use Rattle.whole.specs.Extremes.{lesser, greater}
use Rattle.grid.specs.declared.Window.{Window}

abbrev pub around : Window → ℤ → ℤ → Window
around r x y = record { left = lesser r.left x; bottom = lesser r.bottom y; right = greater r.right x; top = greater r.top y }

unfoldable pub reach : Window → List ℤ → ℕ → Window
reach w xs zero = w
reach w xs (suc n) = around (reach w xs n) (get_or xs (2 * n) (pos 0)) (get_or xs (2 * n + 1) (pos 0))

unfoldable pub apart : ℤ → ℤ → ℕ
apart a b = nat_abs (b -ℤ a)

unfoldable pub width : Window → ℕ
width r = apart r.left r.right

unfoldable pub height : Window → ℕ
height r = apart r.bottom r.top

unfoldable pub extent : Window → ℕ
extent r = when ltb (width r) (height r) then height r else width r
