-- A side of a window as a condition on a stroke.
--   dx s, dy s               how far the stroke goes in x and in y
--   side_p s k, side_q w s k   the p and the q of the side k: at t the stroke is inside the side or on it where p·t ≤ q
--   condition w s k          both of them
--   four_sides                the sides, in the order of their numbers: 0 left, 1 right, 2 bottom, 3 top
--   conditions w s           those of the four sides, in the order of their numbers: 0 left, 1 right, 2 bottom, 3 top
use Rattle.std.specs.Prelude.{List, [], ◌∷◌, map, ℤ, neg_ℤ, ◌-ℤ◌}
use Rattle.grid.specs.declared.Stroke.{Stroke}
use Rattle.grid.specs.declared.Window.{Window}
use Rattle.grid.specs.Sides.{Side, left, right, bottom, top}
use Rattle.spans.specs.Sides.{Condition}

abbrev pub dx : Stroke → ℤ
dx s = s.x2 -ℤ s.x1

abbrev pub dy : Stroke → ℤ
dy s = s.y2 -ℤ s.y1

abbrev pub side_p : Stroke → Side → ℤ
side_p s left = neg_ℤ (dx s)
side_p s right = dx s
side_p s bottom = neg_ℤ (dy s)
side_p s top = dy s

abbrev pub side_q : Window → Stroke → Side → ℤ
side_q w s left = s.x1 -ℤ w.left
side_q w s right = w.right -ℤ s.x1
side_q w s bottom = s.y1 -ℤ w.bottom
side_q w s top = w.top -ℤ s.y1

abbrev pub condition : Window → Stroke → Side → Condition
condition w s k = record { p = side_p s k; q = side_q w s k }

abbrev pub four_sides : List Side
four_sides = left ∷ right ∷ bottom ∷ top ∷ []

abbrev pub conditions : Window → Stroke → List Condition
conditions w s = map (condition w s) (left ∷ right ∷ bottom ∷ top ∷ [])
