-- What one pass promises.
--   Held w zs m p              the corners at the places p of the memory m are a ring, traced
--   Passed w zs k m p m' p'    what a pass promises (`first_pass::pass`, `later_pass::pass`): along the side k it leaves of the ring at p in m
--                              that at p' in m', which is traced and ends at most one place later
use Rattle.std.specs.Prelude.{List, suc, ◌≤◌, ℤ}
use Rattle.grid.specs.declared.Window.{Window}
use Rattle.grid.specs.Sides.{Side}
use Rattle.rings.specs.Rings.{Ring}
use Rattle.rings.specs.Cuts.{OnePass}
use Rattle.memory.specs.declared.Places.{Places}
use Rattle.memory.specs.Memory.{ring_at}
use Rattle.memory.specs.Tagged.{corners_at}
use Rattle.limits.specs.Sides.{side_line}
use Rattle.remains.specs.Runs.{Traced}

pub record Held (w : Window) (zs m : List ℤ) (p : Places) : Type 0 where
  pub ring : Ring (ring_at m p)
  pub traced : Traced w zs (corners_at m p)

-- the rules give each pass a statement of its own, which is in OnePass; traced, so that the next pass can find its crossings
pub record Passed (w : Window) (zs : List ℤ) (k : Side) (m : List ℤ) (p : Places) (m' : List ℤ) (p' : Places) : Type 0 where
  pub order : p'.from ≤ p'.to
  pub end : p'.to ≤ suc p.to
  pub pass : OnePass (side_line w k) (ring_at m p) (ring_at m' p')
  pub traced : Traced w zs (corners_at m' p')
