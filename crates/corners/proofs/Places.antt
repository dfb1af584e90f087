-- Every edge of a closed list, by the place from which it leads: to the next place, and from the last to the first.
use mathlib.Core.Path.{◌≡◌, refl, subst}
use mathlib.Core.List.{List, [], ◌∷◌}
use Prim.Native.Nat.{ℕ, zero, suc, ◌<◌}
use native.Mathlib.Omega.{arith}
use lib.ListN.{length}
use Rattle.rings.specs.Lists.{Walk, last, step, Edges, nothing, closed}
use Rattle.rings.specs.Points.{Point}
use Rattle.rings.specs.Rings.{at, Edge, along, closing}
use Rattle.convex.specs.Corners.{next}
use Rattle.convex.proofs.Convexity.{next_edge, edge_next}

module _ {R : Point → Point → Type 0} where
  walk_of : (xs : List Point) {a z : Point} → ((j : ℕ) → j < length xs → R (at (a ∷ xs) j) (at xs j)) → R (at (a ∷ xs) (length xs)) z → Walk R a xs z
  walk_of [] f h = last h
  walk_of (b ∷ xs) f h = step (f 0 (omega arith)) (walk_of xs (λ j l. f (suc j) (omega arith)) h)

  walk_at : {xs : List Point} {a z : Point} → Walk R a xs z → (j : ℕ) → j < length xs → R (at (a ∷ xs) j) (at xs j)
  walk_at (last r) j h = absurd (omega arith)
  walk_at (step r w) zero h = r
  walk_at (step r w) (suc j) h = walk_at w j (omega arith)

  walk_end : {xs : List Point} {a z : Point} → Walk R a xs z → R (at (a ∷ xs) (length xs)) z
  walk_end (last r) = r
  walk_end (step r w) = walk_end w

  pub edges_of : (r : List Point) → ((j : ℕ) → j < length r → R (at r j) (at r (next (length r) j))) → Edges R r
  edges_of [] f = nothing
  edges_of (a ∷ xs) f = closed (walk_of xs
      (λ j h. subst (λ (k : ℕ). R (at (a ∷ xs) j) (at (a ∷ xs) k)) (edge_next (along {i = j} (omega arith))) (f j (omega arith)))
      (subst (λ (k : ℕ). R (at (a ∷ xs) (length xs)) (at (a ∷ xs) k)) (edge_next (closing {i = length xs} refl)) (f (length xs) (omega arith))))

  pub edges_at : {r : List Point} → Edges R r → (j : ℕ) → j < length r → R (at r j) (at r (next (length r) j))
  edges_at nothing j h = absurd (omega arith)
  edges_at {r} (closed {a} {xs} w) j h = go (next_edge h)
    where
      go : {k : ℕ} → Edge (length (a ∷ xs)) j k → R (at (a ∷ xs) j) (at (a ∷ xs) k)
      go (along l) = walk_at w j (omega arith)
      go (closing e) = let last : length xs ≡ j = omega (arith, e) in subst (λ (m : ℕ). R (at (a ∷ xs) m) a) last (walk_end w)
