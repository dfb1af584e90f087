-- The walk has come to a corner, and asks the corner behind it next.
use Rattle.std.proofs.Common.{◌≡◌, List, suc}
use Rattle.rings.specs.Points.{Point}
use Rattle.lowest.specs.Lowest.{Told}
use Rattle.lowest.proofs.Downhill.{Fell}
use Rattle.lowest.proofs.down_forward.Given as goal

abbrev pub invariant-loop-next : goal.invariant-loop-next
invariant-loop-next g l = record {
  behind : suc l.reached ≡ l.next;
  fell : (r : List Point) → Told l.n (goal.F-post g l.before) r → Fell r l.reached;
}
