-- What the first pass promises, and what it puts where the outline comes in.
--   EnteredOwn zs h on k m at m' r  between the outline's corner k outside the line h and the next one inside the crossing was put at the place at, unless that one
--                                   is on the line; what comes next has the place r
--   FirstPassed h zs k m p          of the outline zs the side k leaves the ring at p in m, in every window whose side k has the line h
use Rattle.std.specs.Prelude.{◌≡◌, Bool, true, false, List, ℕ, ◌+◌, ◌/◌, ℤ, pos, length}
use Rattle.grid.specs.declared.Window.{Window}
use Rattle.grid.specs.Sides.{Side}
use Rattle.rings.specs.Points.{Point, Line}
use Rattle.memory.specs.declared.Places.{Places}
use Rattle.memory.specs.Memory.{places}
use Rattle.memory.specs.Tagged.{put_at, loaded_of}
use Rattle.limits.specs.Sides.{side_line}
use Rattle.crossings.specs.Tags.{edge_of}
use Rattle.crossings.specs.Meetings.{Meets}
use Rattle.remains.specs.Remains.{Passed}

pub data EnteredOwn (zs : List ℤ) (h : Line) (on : Bool) (k : ℕ) (m : List ℤ) (at : ℕ) : List ℤ → ℕ → Type 0 where
  on_line : on ≡ true → EnteredOwn zs h on k m at m at
  crosses : {p : Point} → on ≡ false → Meets h (edge_of zs k) p → EnteredOwn zs h on k m at (put_at m at p (pos k)) (at + 1)

abbrev pub FirstPassed : Line → List ℤ → Side → List ℤ → Places → Type 0
FirstPassed h zs k m p = (w : Window) → h ≡ side_line w k → Passed w zs k (loaded_of zs) (places 0 (length zs / 2)) m p
