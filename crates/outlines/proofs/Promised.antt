-- What the passes leave is all that the call promises, and it is the only list and the only counts: a ring is determined by its points, and the
-- corners that a pass leaves by those before it.
use mathlib.Core.Path.{◌≡◌, refl, sym, subst}
use mathlib.Core.List.{List, []}
use mathlib.Core.Option.{none}
use Prim.Native.Nat.{ℕ, ◌≤◌}
use native.Mathlib.Omega.{arith}
use lib.IntN.{ℤ}
use Rattle.grid.specs.Table.{NumbersOnTable}
use Rattle.grid.specs.declared.Window.{Window}
use Rattle.rings.specs.Lists.{Turned}
use Rattle.rings.specs.Points.{Point}
use Rattle.rings.specs.Rings.{Ring, Starts}
use Rattle.rings.specs.Cuts.{Cuts, Passes}
use Rattle.rings.proofs.Lists.{turned_length}
use Rattle.rings.proofs.Theorems.{alike_refl, passes_cuts, counts_unique}
use Rattle.convex.specs.Corners.{corners_of}
use Rattle.passes.specs.Orders.{lines_in}
use Rattle.passes.specs.Passes.{no_corners}
use Rattle.writing.specs.Numbers.{RingNumbers, no_corner}
use Rattle.outlines.specs.Outlines.{no_fraction, ByPasses, ring_left, none_left, OutlineClipped}
use Rattle.outlines.proofs.Passes.{cuts_ring, ring_gives, none_gives}
use Rattle.outlines.proofs.Unique.{gives_unique}
use Rattle.outlines.proofs.Denominators.{small_given}

module _ {o : ℕ} (w : Window) (h : o ≤ 23) (zs : List ℤ) (g : Ring (corners_of zs)) where
  pub ring_passed : NumbersOnTable zs → {t s : List Point} {xs : List ℤ} {ns : List ℕ} → Passes (lines_in o w) (corners_of zs) ns t
      → Turned t s → Starts s → RingNumbers s xs → OutlineClipped w o zs xs ns
  ring_passed on c u st n =
      let k = ring_gives w h zs g (passes_cuts c) u st n in
      record { gives = k; denominators = small_given on g k; passes = ring_left c u st n }

  pub none_passed : Cuts (lines_in o w) (corners_of zs) none → OutlineClipped w o zs [] no_corners
  none_passed c = record { gives = none_gives w h zs g c; denominators = no_fraction; passes = none_left c }

  -- ---- the counts
  not_empty : {t s : List Point} {ns : List ℕ} → Passes (lines_in o w) (corners_of zs) ns t → Turned t s → RingNumbers s [] → ⊥
  not_empty c u no_corner = let l = (cuts_ring w h zs g (passes_cuts c)).three in let e = turned_length u in absurd (omega arith)

  passed_unique : {xs ys : List ℤ} {ns ms : List ℕ} → xs ≡ ys → ByPasses w o zs xs ns → ByPasses w o zs ys ms → ns ≡ ms
  passed_unique e (ring_left c u st n) (ring_left d v st' m) = counts_unique (alike_refl g.proper) c d
  passed_unique e (ring_left {r = r} c u st n) (none_left d) = absurd (not_empty c u (subst (RingNumbers r) e n))
  passed_unique e (none_left c) (ring_left {r = r} d v st m) = absurd (not_empty d v (subst (RingNumbers r) (sym e) m))
  passed_unique e (none_left c) (none_left d) = refl

  pub clipped_unique : {xs ys : List ℤ} {ns ms : List ℕ} → OutlineClipped w o zs xs ns → OutlineClipped w o zs ys ms → (xs ≡ ys) × (ns ≡ ms)
  clipped_unique p q = let e = gives_unique p.gives q.gives in (e, passed_unique e p.passes q.passes)
