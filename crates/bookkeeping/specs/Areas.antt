-- What it is to share area, in points; the laws are proved in proofs/Areas.antt.
--   StrictlyIn w p       the point p lies strictly inside the strip w
--   InBoth v w           a point that lies strictly inside v and w
--   SharesAPoint         two strips share area exactly when there is such a point
--   TouchingSharesNone   where one strip lies beyond a side of the other, whether it touches it or not, they share none
use Rattle.std.specs.Prelude.{◌≡◌, false}
use Rattle.whole.specs.Choice.{Decides}
use Rattle.grid.specs.Sides.{Side, Beyond}
use Rattle.grid.specs.Table.{WindowOnTable}
use Rattle.grid.specs.declared.Window.{Window}
use Rattle.racks.specs.Areas.{shares_area}
use Rattle.rings.specs.Lists.{All}
use Rattle.rings.specs.Points.{Point, Line, Proper, Over}
use Rattle.rings.specs.Windows.{side_lines}

abbrev pub StrictlyIn : Window → Point → Type 0
StrictlyIn w p = All (λ (h : Line). Over h p) (side_lines w.left w.bottom w.right w.top)

pub record InBoth (v w : Window) : Type 0 where
  pub point : Point
  pub proper : Proper point
  pub in_one : StrictlyIn v point
  pub in_other : StrictlyIn w point

abbrev pub SharesAPoint : Type 0
SharesAPoint = (v w : Window) → WindowOnTable v → WindowOnTable w → Decides (shares_area v w) (InBoth v w)

abbrev pub TouchingSharesNone : Type 0
TouchingSharesNone = (v w : Window) (k : Side) → Beyond v w k → shares_area v w ≡ false
