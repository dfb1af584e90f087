-- What the passes leave is the ring of the points in common, or there is no area: a point lies inside all lines exactly when it lies in the window.
use mathlib.Core.Path.{refl}
use mathlib.Core.List.Permᴰ
use mathlib.Core.List.{List, []}
use mathlib.Core.Logic.{◌↔◌}
use mathlib.Core.Option.{none, some}
use Prim.Native.Nat.{ℕ, ◌≤◌}
use native.Mathlib.Omega.{arith}
use lib.IntN.{ℤ}
use Rattle.grid.specs.declared.Window.{Window}
use Rattle.rings.specs.Lists.{All, Turned}
use Rattle.rings.specs.Points.{Point, Real}
use Rattle.rings.specs.Rings.{Ring, Starts}
use Rattle.rings.specs.Cuts.{Inside, Cuts, Outcome, started}
use Rattle.rings.specs.Cuts as cuts
use Rattle.rings.specs.Windows.{InWindow}
use Rattle.rings.proofs.Lists.{turned_length}
use Rattle.rings.proofs.Orders.{all_order}
use Rattle.rings.proofs.Theorems.{all_cuts, cuts_length, result_outcome, sides_real, in_window}
use Rattle.convex.specs.Corners.{corners_of}
use Rattle.passes.specs.Orders.{lines_in}
use Rattle.passes.proofs.Orders.{lines_arranged, lines_length}
use Rattle.writing.specs.Numbers.{RingNumbers}
use Rattle.outlines.specs.Outlines.{OutlineGives, area, without_area}

module _ {o : ℕ} (w : Window) (h : o ≤ 23) where
  pub lines_real : All Real (lines_in o w)
  lines_real = all_order (lines_arranged o w h) (sides_real w.left w.bottom w.right w.top)

  lines_window : (p : Point) → Inside (lines_in o w) p ↔ InWindow w.left w.bottom w.right w.top p
  lines_window p =
      let d = lines_arranged o w h in
      let k = in_window w.left w.bottom w.right w.top p in
      (λ i. k.0 (all_order (Permᴰ.symm d) i), λ i. all_order d (k.1 i))

  module _ (zs : List ℤ) (g : Ring (corners_of zs)) where
    pub cuts_ring : {t : List Point} → Cuts (lines_in o w) (corners_of zs) (some t) → Ring t
    cuts_ring {t} c = of (all_cuts lines_real g c)
      where
        of : Outcome (lines_in o w) (corners_of zs) (some t) → Ring t
        of (cuts.area l) = l.ring

    pub ring_gives : {t s : List Point} {xs : List ℤ} → Cuts (lines_in o w) (corners_of zs) (some t) → Turned t s → Starts s → RingNumbers s xs
        → OutlineGives w zs xs
    ring_gives {s = s} {xs} c u st n = of (result_outcome lines_real g (started c u st))
      where
        of : Outcome (lines_in o w) (corners_of zs) (some s) → OutlineGives w zs xs
        of (cuts.area l) = area (record {
          corners = s;
          ring = l.ring;
          starts = st;
          few = let a = cuts_length c in let b = turned_length u in let e = lines_length o w h in omega arith;
          points = λ p _. (
            λ i. let k = (l.points p).0 i in record { outline = k.0; window = (lines_window p).0 k.1 },
            λ k. (l.points p).1 (k.outline, (lines_window p).1 k.window),
          );
          numbers = n;
        })

    pub none_gives : Cuts (lines_in o w) (corners_of zs) none → OutlineGives w zs []
    none_gives c = of (result_outcome lines_real g (cuts.none_left c))
      where
        of : Outcome (lines_in o w) (corners_of zs) none → OutlineGives w zs []
        of (cuts.without_area n) = without_area (record { nothing = refl; line = n.line; real = n.real; flat = λ p _ k. n.flat p k.outline ((lines_window p).1 k.window) })
