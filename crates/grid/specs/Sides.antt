-- The four sides of a window.
--   Side           left, right, bottom, top
--   place_of k      the side's place in every list that has a member a side, from 0 to 3
--   side_at n       the side of a place; from 3 on the top
--   number_of w k   the window's number of the side k
--   Clear w b k    no point of the rectangle b lies outside the side k of the window w
--   Beyond w b k   no point of the rectangle b lies strictly inside the side k of the window w
use Rattle.std.specs.Prelude.{ℕ, zero, suc, ℤ, ◌≤ℤ◌}
use Rattle.grid.specs.declared.Window.{Window}

pub data Side : Type 0 where
  left : Side
  right : Side
  bottom : Side
  top : Side

abbrev pub place_of : Side → ℕ
place_of left = 0
place_of right = 1
place_of bottom = 2
place_of top = 3

abbrev pub side_at : ℕ → Side
side_at zero = left
side_at (suc zero) = right
side_at (suc (suc zero)) = bottom
side_at (suc (suc (suc n))) = top

abbrev pub number_of : Window → Side → ℤ
number_of w left = w.left
number_of w right = w.right
number_of w bottom = w.bottom
number_of w top = w.top

abbrev pub Clear : Window → Window → Side → Type 0
Clear w b left = w.left ≤ℤ b.left
Clear w b right = b.right ≤ℤ w.right
Clear w b bottom = w.bottom ≤ℤ b.bottom
Clear w b top = b.top ≤ℤ w.top

abbrev pub Beyond : Window → Window → Side → Type 0
Beyond w b left = b.right ≤ℤ w.left
Beyond w b right = w.right ≤ℤ b.left
Beyond w b bottom = b.top ≤ℤ w.bottom
Beyond w b top = w.top ≤ℤ b.bottom
