-- The table: which numbers are coordinates on it.
--   farthest      16,383, the largest coordinate; the least is its negative
--   on_table z     z is a coordinate of the table
--   NumbersOnTable zs   all numbers of a list are on the table
--   first_off zs   the index of the first number off the table; how many there are, if none is
--   sides w       the four numbers of a window: left, bottom, right, top
--   ends s        the four numbers of a stroke: x1, y1, x2, y2
--   stroke_at zs p  the stroke whose first number stands at the place p of a list
--   strokes_of zs  the strokes of a list, four numbers each
--   WindowOnTable w, StrokeOnTable s, StrokesOnTable zs   what no call refuses: numbers on the table, a window with area, a list of at most 4,096 strokes
use Rattle.std.specs.Prelude.{◌≡◌, Bool, ◌&&◌, List, [], ◌∷◌, ℕ, suc, ◌+◌, ◌%◌, ◌<◌, ◌≤◌, ℤ, pos, neg_ℤ, length, get_or, ◌<ℤ◌}
use Rattle.std.specs.Int.Signed.{le_z}
use Rattle.whole.specs.Within.{Within}
use Rattle.whole.specs.Choice.{when◌then◌else◌}
use Rattle.grid.specs.declared.Window.{Window}
use Rattle.grid.specs.declared.Stroke.{Stroke}

abbrev pub farthest : ℕ
farthest = 16383

unfoldable pub on_table : ℤ → Bool
on_table z = le_z (neg_ℤ (pos farthest)) z && le_z z (pos farthest)

abbrev pub NumbersOnTable : List ℤ → Type 0
NumbersOnTable zs = (k : ℕ) → k < length zs → Within farthest (get_or zs k (pos 0))

unfoldable pub first_off : List ℤ → ℕ
first_off [] = 0
first_off (z ∷ zs) = when on_table z then suc (first_off zs) else 0

abbrev pub sides : Window → List ℤ
sides w = w.left ∷ w.bottom ∷ w.right ∷ w.top ∷ []

abbrev pub ends : Stroke → List ℤ
ends s = s.x1 ∷ s.y1 ∷ s.x2 ∷ s.y2 ∷ []

abbrev pub stroke_at : List ℤ → ℕ → Stroke
stroke_at zs p = record { x1 = get_or zs p (pos 0); y1 = get_or zs (p + 1) (pos 0); x2 = get_or zs (p + 2) (pos 0); y2 = get_or zs (p + 3) (pos 0) }

unfoldable pub strokes_of : List ℤ → List Stroke
strokes_of (a ∷ b ∷ c ∷ d ∷ zs) = record { x1 = a; y1 = b; x2 = c; y2 = d } ∷ strokes_of zs
strokes_of (a ∷ b ∷ c ∷ []) = []
strokes_of (a ∷ b ∷ []) = []
strokes_of (a ∷ []) = []
strokes_of [] = []

pub record WindowOnTable (w : Window) : Type 0 where
  pub left : Within farthest w.left
  pub bottom : Within farthest w.bottom
  pub right : Within farthest w.right
  pub top : Within farthest w.top
  pub wide : w.left <ℤ w.right
  pub tall : w.bottom <ℤ w.top

pub record StrokeOnTable (s : Stroke) : Type 0 where
  pub x1 : Within farthest s.x1
  pub y1 : Within farthest s.y1
  pub x2 : Within farthest s.x2
  pub y2 : Within farthest s.y2

pub record StrokesOnTable (zs : List ℤ) : Type 0 where
  pub by_four : length zs % 4 ≡ 0
  pub few : length zs ≤ 16384
  pub on : NumbersOnTable zs
