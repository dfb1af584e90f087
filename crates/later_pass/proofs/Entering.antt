-- What stands in memory where the ring comes in: the crossing in the place of the last corner outside, unless the next corner lies on the line.
use mathlib.Core.Path.{◌≡◌, refl, subst}
use mathlib.Core.Bool.{Bool}
use mathlib.Core.List.{List, [], ◌∷◌}
use mathlib.Core.Logic.{◌⊎◌}
use Prim.Native.Nat.{ℕ, ◌+◌, ◌*◌, ◌<◌, ◌≤◌}
use native.Mathlib.Nat.{add-zero}
use native.Mathlib.Omega.{arith}
use lib.IntN.{ℤ}
use lib.ListN.{length}
use Rattle.whole.specs.Choice.{Decides}
use Rattle.grid.specs.declared.Window.{Window}
use Rattle.grid.specs.Sides.{Side}
use Rattle.rings.specs.Points.{Point, Line, In, Over, On}
use Rattle.memory.specs.Tagged.{Tagged, tagged, tag_in, corner_in, corners_from}
use Rattle.memory.proofs.Memories.{put_at_lem}
use Rattle.limits.specs.Sides.{side_line}
use Rattle.crossings.specs.Meetings.{Meeting}
use Rattle.remains.specs.Runs.{Comes, on_line, crosses}
use Rattle.remains.proofs.Ends.{over}
use Rattle.later_pass.specs.Later.{Entered}
use Rattle.later_pass.specs.Later as later

-- the corners c, from the place r up to the one after o
pub record Come (w : Window) (zs : List ℤ) (s : Side) (m : List ℤ) (o : ℕ) (p : Point) (m' : List ℤ) (r : ℕ) : Type 0 where
  pub c : List Tagged
  pub comes : Comes w zs s (corner_in m o) p c
  pub count : ℕ
  pub few : count ≤ 1
  pub start : r + count ≡ o + 1
  pub stands : corners_from m' r count ≡ c
  pub others : (j : ℕ) → j < o ⊎ o < j → corner_in m' j ≡ corner_in m j

-- by a limit whose line h is the side's
pub come : {w : Window} {zs : List ℤ} {s : Side} {h : Line} {there : Bool} {m : List ℤ} {o : ℕ} {p : Point} {m' : List ℤ} {r : ℕ}
    → h ≡ side_line w s → 4 * o + 4 ≤ length m → Decides there (On h p) → In h p → Entered w zs h there m o m' r → Come w zs s m o p m' r
unfolding corners_from
come {p = z} q h e k (later.on_line l) = record {
  c = [];
  comes = on_line (subst (λ (h : Line). On h z) q (e.yes l));
  count = 0;
  few = omega arith;
  start = add-zero _;
  stands = refl;
  others = λ j b. refl;
}
come {w} {zs} {s} {h = line} {m = m} {o} {p = z} q h e k (later.crosses {p = x} l met) =
    let p = put_at_lem m o x (tag_in m o) h in
    record {
      c = tagged x (tag_in m o) ∷ [];
      comes = crosses (subst (λ (h : Line). Over h z) q (over line z k (e.no l))) (subst (λ (h : Line). Meeting w zs h (tag_in m o) x) q met);
      count = 1;
      few = omega arith;
      start = refl;
      stands = λ j. p.put j ∷ [];
      others = p.others;
    }
