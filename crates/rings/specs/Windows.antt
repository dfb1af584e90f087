-- A rectangle as a window: its four sides as lines, and its points.
--   left_side l         the line of the left side at l, its inside to the right of it
--   right_side r        the line of the right side at r
--   bottom_side b       the line of the bottom side at b
--   top_side t          the line of the top side at t
--   side-lines l b r t  the lines of the sides left, right, bottom, top of the window l, b, r, t (left, bottom, right, top)
--   InWindow l b r t p  p lies in the closed window: left ≤ X/W ≤ right and bottom ≤ Y/W ≤ top
use Rattle.std.specs.Prelude.{List, [], ◌∷◌, ℤ, pos, negsuc, neg_ℤ, ◌*ℤ◌, ◌≤ℤ◌}
use Rattle.rings.specs.Points.{Point, Line}

unfoldable pub left_side : ℤ → Line
left_side l = record { A = pos 1; B = pos 0; C = neg_ℤ l }

unfoldable pub right_side : ℤ → Line
right_side r = record { A = negsuc 0; B = pos 0; C = r }

unfoldable pub bottom_side : ℤ → Line
bottom_side b = record { A = pos 0; B = pos 1; C = neg_ℤ b }

unfoldable pub top_side : ℤ → Line
top_side t = record { A = pos 0; B = negsuc 0; C = t }

abbrev pub side_lines : ℤ → ℤ → ℤ → ℤ → List Line
side_lines l b r t = left_side l ∷ right_side r ∷ bottom_side b ∷ top_side t ∷ []

pub record InWindow (l b r t : ℤ) (p : Point) : Type 0 where
  pub left : (l *ℤ p.W) ≤ℤ p.X
  pub right : p.X ≤ℤ (r *ℤ p.W)
  pub bottom : (b *ℤ p.W) ≤ℤ p.Y
  pub top : p.Y ≤ℤ (t *ℤ p.W)
