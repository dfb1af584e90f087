-- The sides of a window as lines.
--   window_of ns       the window whose sides have the numbers ns, each at its side's place
--   side_line w k      the line of the side k of the window w; what is in it is where the window lies
use Rattle.std.specs.Prelude.{List, ℤ, pos, get_or}
use Rattle.grid.specs.declared.Window.{Window}
use Rattle.grid.specs.Sides.{Side, left, right, bottom, top}
use Rattle.rings.specs.Points.{Line}
use Rattle.rings.specs.Windows.{left_side, right_side, bottom_side, top_side}

abbrev pub window_of : List ℤ → Window
window_of ns = record { left = get_or ns 0 (pos 0); bottom = get_or ns 2 (pos 0); right = get_or ns 1 (pos 0); top = get_or ns 3 (pos 0) }

abbrev pub side_line : Window → Side → Line
side_line w left = left_side w.left
side_line w right = right_side w.right
side_line w bottom = bottom_side w.bottom
side_line w top = top_side w.top
