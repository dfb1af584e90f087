-- What the passes left in memory is what the call gives: a ring that has room there, or nothing.
use mathlib.Core.Path.{◌≡◌, refl}
use mathlib.Core.Option.{none}
use mathlib.Core.List.{List, []}
use Prim.Native.Nat.{ℕ, ◌-◌, ◌*◌, ◌≤◌, zero-le}
use native.Mathlib.Omega.{arith}
use borrow.Author.Tests.{le-leb}
use lib.IntN.{ℤ}
use lib.ListN.{length}
use Rattle.grid.specs.Calls.{written, GaveNumbers}
use Rattle.grid.specs.declared.Window.{Window}
use Rattle.rings.specs.Points.{Point}
use Rattle.rings.specs.Rings.{Ring}
use Rattle.rings.specs.Cuts.{Cuts, Passes}
use Rattle.rings.proofs.Theorems.{passes_cuts}
use Rattle.convex.specs.Corners.{corners_of}
use Rattle.passes.specs.Orders.{lines_in}
use Rattle.crossings.specs.Outlines.{OutlineOnTable}
use Rattle.memory.specs.Memory.{ring_at}
use Rattle.passes.specs.Passes.{no_corners, Ran}
use Rattle.passes.specs.Passes as passes
use Rattle.passes.specs.declared.Leftover.{Leftover}
use Rattle.crossings.proofs.Outlines.{outline_ring}
use Rattle.outlines.specs.Outlines.{OutlineClipped}
use Rattle.writing.specs.Writing.{GaveRing}
use Rattle.outlines.proofs.Passes.{cuts_ring}
use Rattle.outlines.proofs.Promised.{ring_passed, none_passed}

-- the passes left a ring at places of the memory m
pub record LeftRing (w : Window) (o : ℕ) (zs m : List ℤ) (l : Leftover) : Type 0 where
  pub passes : Passes (lines_in o w) (corners_of zs) l.counts (ring_at m l.places)
  pub ring : Ring (ring_at m l.places)
  pub room : 4 * l.places.to ≤ length m

pub in_order : {w : Window} {o : ℕ} {zs m : List ℤ} {l : Leftover} → Ran w o zs m l → l.places.from ≤ l.places.to
in_order (passes.without_area c) = omega arith
in_order (passes.area l r three few c small) = l

module _ {w : Window} {o : ℕ} {zs : List ℤ} (h : o ≤ 23) (t : OutlineOnTable zs) where
  pub left_ring : {m : List ℤ} {l : Leftover} → Ran w o zs m l → (l.places.to - l.places.from ≡ 0 → ⊥) → LeftRing w o zs m l
  left_ring (passes.without_area c) n = absurd (n refl)
  left_ring (passes.area l r three few c small) n = record { passes = c; ring = cuts_ring w h zs (outline_ring t) (passes_cuts c); room = r }

  pub give_ring : {r : List Point} {n : ℕ} {ns : List ℕ} {before after : List ℤ} → Passes (lines_in o w) (corners_of zs) ns r
      → GaveRing r n before after → GaveNumbers (λ xs. OutlineClipped w o zs xs ns) n before after
  give_ring c g = record {
    numbers = g.numbers;
    gives = ring_passed w h zs (outline_ring t) t.corners.on c g.gives.turned g.gives.starts g.gives.are;
    count = g.count;
    output = g.output;
  }

  pub give_nothing : {out : List ℤ} → Cuts (lines_in o w) (corners_of zs) none → GaveNumbers (λ xs. OutlineClipped w o zs xs no_corners) 0 out out
  unfolding written
  give_nothing {out} c = record { numbers = []; gives = none_passed w h zs (outline_ring t) c; count = refl; output = simp (le-leb 0 (length out) zero-le) }

  pub give_none : {m out : List ℤ} {l : Leftover} → Ran w o zs m l → l.places.to - l.places.from ≡ 0
      → GaveNumbers (λ xs. OutlineClipped w o zs xs l.counts) 0 out out
  give_none (passes.without_area c) e = give_nothing c
  give_none (passes.area l r three few c small) e = absurd (omega arith)
