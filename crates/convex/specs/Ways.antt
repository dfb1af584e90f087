-- The ways between corners, by whose turns and falls strict convexity is told.
--   CornerOnTable a  both numbers of a corner are on the table
--   Short w          a way no longer than the table, across and up
--   corner_at zs i    the corner whose two numbers stand at i
--   way_from a b      the way from a to b
--   cross_of a b      the cross product of two ways: positive where b turns left from a, 0 where they are parallel
--   turns_left a b    b turns left from a
--   down w           w goes down
--   change_of a b     1 where one of a and b goes down and the other does not, otherwise 0
use Rattle.std.specs.Prelude.{Bool, List, ℕ, ◌+◌, ◌*◌, ℤ, pos, ◌-ℤ◌, ◌*ℤ◌, get_or}
use Rattle.std.specs.Bool.{xor}
use Rattle.std.specs.Int.Signed.{lt_z}
use Rattle.whole.specs.Choice.{when◌then◌else◌}
use Rattle.whole.specs.Within.{Within}
use Rattle.grid.specs.Table.{farthest}
use Rattle.convex.specs.declared.Corner.{Corner}
use Rattle.convex.specs.declared.Way.{Way}

pub record CornerOnTable (a : Corner) : Type 0 where
  pub x : Within farthest a.x
  pub y : Within farthest a.y

pub record Short (w : Way) : Type 0 where
  pub x : Within (2 * farthest) w.x
  pub y : Within (2 * farthest) w.y

abbrev pub corner_at : List ℤ → ℕ → Corner
corner_at zs i = record { x = get_or zs i (pos 0); y = get_or zs (i + 1) (pos 0) }

abbrev pub way_from : Corner → Corner → Way
way_from a b = record { x = b.x -ℤ a.x; y = b.y -ℤ a.y }

abbrev pub cross_of : Way → Way → ℤ
cross_of a b = a.x *ℤ b.y -ℤ a.y *ℤ b.x

unfoldable pub turns_left : Way → Way → Bool
turns_left a b = lt_z (pos 0) (cross_of a b)

abbrev pub down : Way → Bool
down w = lt_z w.y (pos 0)

unfoldable pub change_of : Way → Way → ℕ
change_of a b = when xor (down a) (down b) then 1 else 0
