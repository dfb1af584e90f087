-- What a pass over a ring in memory is given, and what it puts where the ring comes in and where it goes out.
--   Job w zs s                  a window and an outline on the table, and the place of one of the window's four sides
--   Entered w zs h on m o m' r  between the corner o outside the line h and one inside the crossing took the place of o, unless that one is on the line; what is
--                               left begins at the place r
--   Exited w zs h k on m i m' r the corner i is the last one inside the line h, which is the side k's: it went out where the line that its tag names meets h
use Rattle.std.specs.Prelude.{◌≡◌, Bool, true, false, List, ℕ, ◌+◌, ◌<◌, ℤ}
use Rattle.grid.specs.declared.Window.{Window}
use Rattle.grid.specs.Sides.{Side}
use Rattle.grid.specs.Table.{WindowOnTable}
use Rattle.rings.specs.Points.{Point, Line}
use Rattle.memory.specs.Tagged.{tag_in, put_at}
use Rattle.crossings.specs.Outlines.{OutlineOnTable}
use Rattle.crossings.specs.Meetings.{Meeting}
use Rattle.remains.specs.Ends.{Went}

pub record Job (w : Window) (zs : List ℤ) (s : ℕ) : Type 0 where
  pub window : WindowOnTable w
  pub outline : OutlineOnTable zs
  pub side : s < 4

pub data Entered (w : Window) (zs : List ℤ) (h : Line) (on : Bool) (m : List ℤ) (o : ℕ) : List ℤ → ℕ → Type 0 where
  on_line : on ≡ true → Entered w zs h on m o m (o + 1)
  crosses : {p : Point} → on ≡ false → Meeting w zs h (tag_in m o) p → Entered w zs h on m o (put_at m o p (tag_in m o)) o

abbrev pub Exited : Window → List ℤ → Line → Side → Bool → List ℤ → ℕ → List ℤ → ℕ → Type 0
Exited w zs h k on m i m' r = Went (Meeting w zs h (tag_in m i)) k on m i m' r
