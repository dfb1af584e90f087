-- The outline's own corners in memory are a ring, each edge of which is traced to the outline's own.
use mathlib.Core.Path.{◌≡◌, sym, ap, ◌∙◌, subst, transport}
use mathlib.Core.List.{List, [], ◌∷◌}
use Prim.Native.Nat.{ℕ, zero, suc, ◌+◌, ◌-◌, ◌*◌, ◌/◌, ◌<◌, ◌≤◌}
use native.Mathlib.Nat.{add-zero, zero-add, sub-zero}
use native.Mathlib.Omega.{arith}
use lib.IntN.{ℤ}
use lib.ListN.{length}
use lib.Seq.{ext_get_or}
use Rattle.whole.proofs.Polynomials.{ring}
use Rattle.whole.proofs.Order.{zarith}
use Rattle.whole.proofs.Ranges.{within_up}
use Rattle.grid.specs.declared.Window.{Window}
use Rattle.rings.specs.Lists.{All, Walk, last, step, Edges, closed}
use Rattle.rings.specs.Points.{Point, value, through, On}
use Rattle.rings.specs.Rings.{nowhere, at, Ring, Edge, along, closing}
use Rattle.rings.proofs.Plane.{corners, det_of, nought}
use Rattle.convex.specs.Corners.{corners_of}
use Rattle.memory.specs.Memory.{point_in, ring_from, places, Small}
use Rattle.memory.specs.Tagged.{Tagged, tag_in, corner_in, corners_from}
use Rattle.memory.proofs.Memories.{ring_length, ring_at, tagged_all}
use Rattle.limits.proofs.Owned.{Loaded}
use Rattle.crossings.specs.Outlines.{OutlineOnTable}
use Rattle.crossings.specs.Tags.{edge_of, Names, edge, Lies}
use Rattle.convex.proofs.Places.{count}
use Rattle.crossings.proofs.Outlines.{corner_at_lem, edge_from, edge_below, edge_line, outline_ring}
use Rattle.remains.specs.Remains.{Held}

-- ---- a line holds the two points that it joins
joins_start : (a b : Point) → On (through a b) a
unfolding value through
joins_start a b = ring (corners (a ∷ b ∷ [])) (det_of 0 1 0) nought tt

joins_end : (a b : Point) → On (through a b) b
unfolding value through
joins_end a b = ring (corners (a ∷ b ∷ [])) (det_of 0 1 1) nought tt

-- ---- what is so of each corner in memory and the next is so of the walk past them
walk_from : {R : Tagged → Tagged → Type 0} (m : List ℤ) (i n : ℕ) (z : Tagged) → ((j : ℕ) → i ≤ j → j < i + n → R (corner_in m j) (corner_in m (suc j)))
    → R (corner_in m (i + n)) z
    → Walk R (corner_in m i) (corners_from m (suc i) n) z
unfolding corners_from
walk_from {R} m i zero z f e = last (subst (λ (k : ℕ). R (corner_in m k) z) (add-zero i) e)
walk_from {R} m i (suc n) z f e =
    step (f i (omega arith) (omega arith))
    (walk_from m (suc i) n z (λ j l h. f j (omega arith) (omega arith)) (subst (λ (k : ℕ). R (corner_in m k) z) (omega arith) e))

edges_from : {R : Tagged → Tagged → Type 0} (m : List ℤ) (n : ℕ) → 0 < n → ((i k : ℕ) → Edge n i k → R (corner_in m i) (corner_in m k)) → Edges R (corners_from m 0 n)
unfolding corners_from
edges_from m zero h f = absurd (omega arith)
edges_from m (suc n) h f = closed (walk_from m 0 n (corner_in m 0) (λ j l k. f j (suc j) (along (omega arith))) (f (0 + n) 0 (closing (omega arith))))

-- ---- the outline's corners in memory
module _ {zs m : List ℤ} (o : OutlineOnTable zs) (l : Loaded zs m (length zs / 2)) where
  corner_in_lem : (k : ℕ) → k < length zs / 2 → point_in m k ≡ at (corners_of zs) k
  corner_in_lem k h = l.corner k h ∙ sym (corner_at_lem zs k h)

  pub ring_loaded : ring_from m 0 (length zs / 2 - 0) ≡ corners_of zs
  ring_loaded =
      ap (ring_from m 0) (sub-zero (length zs / 2)) ∙ ext_get_or nowhere _ _ (ring_length m 0 (length zs / 2) ∙ sym (count zs))
      (λ k h. let j : k < length zs / 2 = omega (arith, ring_length m 0 (length zs / 2)) in
      ring_at m 0 (length zs / 2) k j ∙ ap (point_in m) (zero-add k) ∙ corner_in_lem k j)

  loaded_small : (k : ℕ) → k < length zs / 2 → Small (point_in m k)
  loaded_small k h = subst Small (sym (l.corner k h)) (record {
    positive = omega zarith;
    den = omega zarith;
    x = within_up (omega arith) (o.corners.on (2 * k) (omega arith));
    y = within_up (omega arith) (o.corners.on (2 * k + 1) (omega arith));
  })

  loaded_lies : {w : Window} (i k : ℕ) → Edge (length zs / 2) i k → Lies w zs (tag_in m i) (point_in m i) (point_in m k)
  loaded_lies {w} i k e =
      let line = sym (edge_line zs e) in
      record {
        stroke = edge_of zs i;
        named = subst (λ (t : ℤ). Names w zs t (edge_of zs i)) (sym (l.tag i (edge_from e))) (edge i (edge_from e));
        from = transport (λ j. On (line j) (sym (corner_in_lem i (edge_from e)) j)) (joins_start (at (corners_of zs) i) (at (corners_of zs) k));
        to = transport (λ j. On (line j) (sym (corner_in_lem k (edge_below e)) j)) (joins_end (at (corners_of zs) i) (at (corners_of zs) k));
      }

  pub loaded_held : (w : Window) → Held w zs m (places 0 (length zs / 2))
  loaded_held w =
      let n = length zs / 2 in
      let e = sym (sub-zero n) in
      record {
        ring = subst Ring (sym ring_loaded) (outline_ring o);
        traced = record {
          small = subst (λ (k : ℕ). All (λ c. Small c.point) (corners_from m 0 k)) e (tagged_all m 0 n (λ k a h. loaded_small k (omega arith)));
          lies = subst (λ (k : ℕ). Edges (λ a b. Lies w zs a.tag a.point b.point) (corners_from m 0 k)) e
              (edges_from m n (omega (arith, o.corners.three)) loaded_lies);
        };
      }
