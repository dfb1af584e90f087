-- A ring of which the line of every edge is known by its tag, and what a side leaves of it where it goes out of the side and where it comes in.
--   Traced w zs cs        each corner is small, and lies with the next on the line that its tag names, the last with the first
--   Goes w zs k u r t     t is what the side k leaves of u and the corners r, all inside, where the next one lies outside: their last corner, if it lies on the
--                         side's line, has its next edge on that line, and else the crossing comes after it
--   Comes w zs k o p t    t is what the side k leaves between the corner o outside and the next at p inside: the crossing on the line of o, unless p is on the
--                         side's line
use Rattle.std.specs.Prelude.{List, [], ◌∷◌, ℤ}
use Rattle.grid.specs.declared.Window.{Window}
use Rattle.grid.specs.Sides.{Side}
use Rattle.rings.specs.Lists.{All, Edges}
use Rattle.rings.specs.Points.{Point, Over, On}
use Rattle.memory.specs.Memory.{Small}
use Rattle.memory.specs.Tagged.{Tagged, tagged}
use Rattle.limits.specs.Sides.{side_line}
use Rattle.crossings.specs.Tags.{side_tag, Lies}
use Rattle.crossings.specs.Meetings.{Meeting}

pub record Traced (w : Window) (zs : List ℤ) (cs : List Tagged) : Type 0 where
  pub small : All (λ c. Small c.point) cs
  pub lies : Edges (λ a b. Lies w zs a.tag a.point b.point) cs

pub data Goes (w : Window) (zs : List ℤ) (k : Side) : Tagged → List Tagged → List Tagged → Type 0 where
  on_line : {u : Tagged} → On (side_line w k) u.point → Goes w zs k u [] (tagged u.point (side_tag k) ∷ [])
  crosses : {u : Tagged} {p : Point} → Over (side_line w k) u.point → Meeting w zs (side_line w k) u.tag p → Goes w zs k u [] (u ∷ tagged p (side_tag k) ∷ [])
  more : {u v : Tagged} {r t : List Tagged} → Goes w zs k v r t → Goes w zs k u (v ∷ r) (u ∷ t)

pub data Comes (w : Window) (zs : List ℤ) (k : Side) (o : Tagged) (p : Point) : List Tagged → Type 0 where
  on_line : On (side_line w k) p → Comes w zs k o p []
  crosses : {q : Point} → Over (side_line w k) p → Meeting w zs (side_line w k) o.tag q → Comes w zs k o p (tagged q o.tag ∷ [])
