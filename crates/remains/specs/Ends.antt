-- What is put into a memory where a ring goes out of a side.
--   Went Met k on m i m' r  the corner i is the last one inside the side k. Where on, it lies on the side's line, and was tagged with the side, along which its
--                           next edge lies; else a point of which Met holds was put after it, tagged so. What is left ends before the place r
use Rattle.std.specs.Prelude.{◌≡◌, Bool, true, false, List, ℕ, ◌+◌, ℤ}
use Rattle.grid.specs.Sides.{Side}
use Rattle.rings.specs.Points.{Point}
use Rattle.memory.specs.Memory.{point_in}
use Rattle.memory.specs.Tagged.{put_at}
use Rattle.crossings.specs.Tags.{side_tag}

pub data Went (Met : Point → Type 0) (k : Side) (on : Bool) (m : List ℤ) (i : ℕ) : List ℤ → ℕ → Type 0 where
  on_line : on ≡ true → Went Met k on m i (put_at m i (point_in m i) (side_tag k)) (i + 1)
  crosses : {p : Point} → on ≡ false → Met p → Went Met k on m i (put_at m (i + 1) p (side_tag k)) (i + 2)
