-- A rectangle given as a corner window.
--   RectangleCorners w zs   zs are the numbers of the four corners of w, from any of them on, in the order left bottom,
--                           right bottom, right top, left top: counterclockwise, or clockwise where just one pair of
--                           sides is exchanged
--   TurnedOver w            w has its right left of its left and its top below its bottom
use Rattle.std.specs.Prelude.{List, [], ◌∷◌, ℤ, ◌<ℤ◌}
use Rattle.grid.specs.declared.Window.{Window}

pub data RectangleCorners (w : Window) : List ℤ → Type 0 where
  from_left_bottom :
      RectangleCorners w (w.left ∷ w.bottom ∷ w.right ∷ w.bottom ∷ w.right ∷ w.top ∷ w.left ∷ w.top ∷ [])
  from_right_bottom :
      RectangleCorners w (w.right ∷ w.bottom ∷ w.right ∷ w.top ∷ w.left ∷ w.top ∷ w.left ∷ w.bottom ∷ [])
  from_right_top :
      RectangleCorners w (w.right ∷ w.top ∷ w.left ∷ w.top ∷ w.left ∷ w.bottom ∷ w.right ∷ w.bottom ∷ [])
  from_left_top :
      RectangleCorners w (w.left ∷ w.top ∷ w.left ∷ w.bottom ∷ w.right ∷ w.bottom ∷ w.right ∷ w.top ∷ [])

abbrev pub TurnedOver : Window → Type 0
TurnedOver w = (w.right <ℤ w.left) × (w.top <ℤ w.bottom)
