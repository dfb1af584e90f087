-- What the workers that find the crossed sides promise each other.
--   CourseOf lo hi a b c   c is the course from a to b past the sides lo and hi: up, or down
--   HasLength s            the stroke's two ends are not one point
--   LevelIf s a b r        r says whether a level side comes before an upright one, by two products a and b of the corner between them: where a is less,
--                          and where the stroke is straight up or down
use Rattle.std.specs.Prelude.{◌≡◌, Bool, true, false, ℤ, ◌-ℤ◌, ◌≤ℤ◌, ◌<ℤ◌}
use Rattle.grid.specs.declared.Stroke.{Stroke}
use Rattle.crossed_sides.specs.declared.Course.{Course}

pub data CourseOf (lo hi a b : ℤ) : Course → Type 0 where
  up : a ≤ℤ b → CourseOf lo hi a b (record { long = b -ℤ a; near = lo -ℤ a; far = hi -ℤ a; at = lo; to = hi })
  down : b <ℤ a → CourseOf lo hi a b (record { long = a -ℤ b; near = a -ℤ hi; far = a -ℤ lo; at = hi; to = lo })

abbrev pub HasLength : Stroke → Type 0
HasLength s = s.x1 ≡ s.x2 → s.y1 ≡ s.y2 → ⊥

pub data LevelIf (s : Stroke) (a b : ℤ) : Bool → Type 0 where
  plumb : s.x1 ≡ s.x2 → LevelIf s a b true
  less : (s.x1 ≡ s.x2 → ⊥) → a <ℤ b → LevelIf s a b true
  not_less : (s.x1 ≡ s.x2 → ⊥) → b ≤ℤ a → LevelIf s a b false
