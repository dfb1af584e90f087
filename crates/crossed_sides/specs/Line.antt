-- The line of a stroke and the corners of a window: on which side of the line each corner lies, and which sides of the window the line crosses.
-- Left and right of the line are meant looking along the stroke.
--   beside s x y        where the point (x, y) lies by the line: left of it where positive, right of it where negative, on it where 0.
--                       It is the cross product of the stroke's way and the way from its start to the point
--   first_corner, second_corner w s k   where the two corners of the side k lie, counterclockwise round the window
--   Parted a b          a lies left of the line or on it, b right of it or on it, and not both on it
--   ComesIn w s k       the line comes in over the side k, its first corner on the left and its second on the right
--   GoesOut w s k       the line goes out over the side k, its first corner on the right and its second on the left
--   OneSide w s         all four corners lie left of the line, or all right of it; each is the first one of a side
--   entry_side, exit_side s level   the number of the side where the stroke's line comes in, or goes out, if it is a level one, bottom or top,
--                       and if it is not: which of two it is, the stroke's direction tells
--   CrossedAt w s c     of the sides where the line comes in, and of those where it goes out, the first is the one that c tells. In a corner of the
--                       window it crosses two at once
--   CrossedBy w s c     c is right for a window and a stroke: the line leaves all corners on one side, or it crosses the window as c tells
use Rattle.std.specs.Prelude.{Bool, Option, None, Some, ◌⊎◌, ℕ, ℤ, pos, ◌-ℤ◌, ◌*ℤ◌, ◌≤ℤ◌, ◌<ℤ◌}
use Rattle.whole.specs.Choice.{when◌then◌else◌}
use Rattle.grid.specs.declared.Stroke.{Stroke}
use Rattle.grid.specs.declared.Window.{Window}
use Rattle.grid.specs.Sides.{Side, left, right, bottom, top}
use Rattle.rings.specs.Lists.{All}
use Rattle.spans.specs.Sides.{FirstOf}
use Rattle.strokes.specs.Sides.{dx, dy, four_sides}
use Rattle.strokes.specs.Workers.{side_met}
use Rattle.crossed_sides.specs.declared.Crossed.{Crossed}

abbrev pub beside : Stroke → ℤ → ℤ → ℤ
beside s x y = dx s *ℤ (y -ℤ s.y1) -ℤ dy s *ℤ (x -ℤ s.x1)

abbrev pub first_corner : Window → Stroke → Side → ℤ
first_corner w s left = beside s w.left w.top
first_corner w s right = beside s w.right w.bottom
first_corner w s bottom = beside s w.left w.bottom
first_corner w s top = beside s w.right w.top

abbrev pub second_corner : Window → Stroke → Side → ℤ
second_corner w s left = beside s w.left w.bottom
second_corner w s right = beside s w.right w.top
second_corner w s bottom = beside s w.right w.bottom
second_corner w s top = beside s w.left w.top

pub record Parted (a b : ℤ) : Type 0 where
  pub left : pos 0 ≤ℤ a
  pub right : b ≤ℤ pos 0
  pub apart : b <ℤ a

abbrev pub ComesIn : Window → Stroke → Side → Type 0
ComesIn w s k = Parted (first_corner w s k) (second_corner w s k)

abbrev pub GoesOut : Window → Stroke → Side → Type 0
GoesOut w s k = Parted (second_corner w s k) (first_corner w s k)

abbrev pub OneSide : Window → Stroke → Type 0
OneSide w s = All (λ (k : Side). pos 0 <ℤ first_corner w s k) four_sides ⊎ All (λ (k : Side). first_corner w s k <ℤ pos 0) four_sides

abbrev pub entry_side : Stroke → Bool → ℕ
entry_side s level = when level then side_met s.y1 s.y2 2 3 else side_met s.x1 s.x2 0 1

abbrev pub exit_side : Stroke → Bool → ℕ
exit_side s level = when level then side_met s.y2 s.y1 2 3 else side_met s.x2 s.x1 0 1

pub record CrossedAt (w : Window) (s : Stroke) (c : Crossed) : Type 0 where
  pub comes : FirstOf (ComesIn w s) four_sides (entry_side s c.entry)
  pub goes : FirstOf (GoesOut w s) four_sides (exit_side s c.exit)

abbrev pub CrossedBy : Window → Stroke → Option Crossed → Type 0
CrossedBy w s None = OneSide w s
CrossedBy w s (Some c) = CrossedAt w s c
