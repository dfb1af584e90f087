-- How far an outline reaches: a rectangle that all its corners lie in.
--   Round zs n b      the first n corners of the outline zs lie in the rectangle b
--   Reaches zs b      all of them do
--   ReachOnTable b    no number of what lies in the rectangle b is off the table
use Rattle.std.specs.Prelude.{List, ℕ, ◌+◌, ◌*◌, ◌/◌, ◌<◌, ℤ, pos, neg_ℤ, length, get_or, ◌≤ℤ◌}
use Rattle.grid.specs.Table.{farthest}
use Rattle.grid.specs.declared.Window.{Window}

pub record Round (zs : List ℤ) (n : ℕ) (b : Window) : Type 0 where
  pub left : (k : ℕ) → k < n → b.left ≤ℤ get_or zs (2 * k) (pos 0)
  pub right : (k : ℕ) → k < n → get_or zs (2 * k) (pos 0) ≤ℤ b.right
  pub bottom : (k : ℕ) → k < n → b.bottom ≤ℤ get_or zs (2 * k + 1) (pos 0)
  pub top : (k : ℕ) → k < n → get_or zs (2 * k + 1) (pos 0) ≤ℤ b.top

abbrev pub Reaches : List ℤ → Window → Type 0
Reaches zs b = Round zs (length zs / 2) b

pub record ReachOnTable (b : Window) : Type 0 where
  pub left : neg_ℤ (pos farthest) ≤ℤ b.left
  pub right : b.right ≤ℤ pos farthest
  pub bottom : neg_ℤ (pos farthest) ≤ℤ b.bottom
  pub top : b.top ≤ℤ pos farthest
