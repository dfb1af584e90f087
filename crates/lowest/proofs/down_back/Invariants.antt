-- The walk has come to a corner, and asks the corner before it next.
use Rattle.std.proofs.Common.{List, ◌-◌, ◌<◌}
use Rattle.rings.specs.Points.{Point}
use Rattle.lowest.specs.Lowest.{Forward, Told}
use Rattle.lowest.proofs.Downhill.{FellBack}
use Rattle.lowest.proofs.down_back.Given as goal

abbrev pub invariant-loop-last : goal.invariant-loop-last
invariant-loop-last g l = record {
  inside : 1 < l.n → l.reached < l.n;
  fell : (r : List Point) → Told l.n (goal.F-post g l.before) r → Forward r 0 → FellBack r l.reached (l.last - 1);
}
