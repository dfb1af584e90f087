-- The fan: a point of a ring lies in a triangle of the first corner and two others; so what a line says of the corners it says of the ring's points.
use mathlib.Core.Path.{sym, subst}
use mathlib.Core.List.{List, [], ◌∷◌, ◌++◌}
use mathlib.Core.Logic.{◌⊎◌, inl, inr}
use Prim.Native.Nat.{◌≤◌}
use native.Mathlib.Omega.{arith}
use lib.ListN.{length}
use Rattle.rings.specs.Lists.{All, ∅, ◌◂◌, Walk, last, step, Edges, closed}
use Rattle.rings.specs.Points.{Point, Line, through, Left, LeftOn, In, Over, Proper}
use Rattle.rings.specs.Rings.{InRing}
use Rattle.rings.proofs.Plane.{cycle, weaken, twice12, twice13, twice23, either_side, triangle, triangle⁺}
use Rattle.rings.proofs.Lists.{Pairs, ◌◂ᵖ◌, ◌⊑◌, done, skip, take, all_part, all_at, all_map, edges_turn, edges_all, edges_map}
use Rattle.rings.proofs.Convex.{CCW, ◌◂ᶜ◌, ccw_part, ccw_star, ccw_turn}

-- p lies in the triangle of o and two corners of vs
record Triangle (o : Point) (vs : List Point) (p : Point) : Type 0 where
  b : Point
  c : Point
  part : (b ∷ c ∷ []) ⊑ vs
  ob : LeftOn o b p
  bc : LeftOn b c p
  co : LeftOn c o p

further : {o a p : Point} {vs : List Point} → Triangle o vs p → Triangle o (a ∷ vs) p
further t = record { b = t.b; c = t.c; part = skip t.part; ob = t.ob; bc = t.bc; co = t.co }

-- walk until p lies right of the line from o
walk_triangle : {o p : Point} (a b : Point) (vs : List Point) → LeftOn o a p → Walk (λ x y. LeftOn x y p) a (b ∷ vs) o → Triangle o (a ∷ b ∷ vs) p
walk_triangle a b [] oa (step ab (last bo)) = record { b = a; c = b; part = take (take done); ob = oa; bc = ab; co = bo }
walk_triangle {o} {p} a b (c ∷ vs) oa (step ab w) = go (λ ob. walk_triangle b c vs ob w) (either_side b o p)
  where
    go : (LeftOn o b p → Triangle o (b ∷ c ∷ vs) p) → LeftOn b o p ⊎ LeftOn o b p → Triangle o (a ∷ b ∷ c ∷ vs) p
    go f (inl bo) = record { b = a; c = b; part = take (take done); ob = oa; bc = ab; co = bo }
    go f (inr ob) = further (f ob)

find : {o a b : Point} {vs : List Point} {p : Point} → InRing (o ∷ a ∷ b ∷ vs) p → Triangle o (a ∷ b ∷ vs) p
find {o} {a} {b} {vs} (closed (step oa w)) = walk_triangle a b vs oa w

ccw_three : {a b c : Point} → CCW (a ∷ b ∷ c ∷ []) → Left a b c
ccw_three (((h ◂ ∅) ◂ᵖ q) ◂ᶜ c) = h

module _ (h : Line) (p : Point) where
  pub fan : (r : List Point) → 3 ≤ length r → CCW r → InRing r p → All (In h) r → In h p
  fan [] l c i a = absurd (omega arith)
  fan (x ∷ []) l c i a = absurd (omega arith)
  fan (x ∷ y ∷ []) l c i a = absurd (omega arith)
  fan (x ∷ y ∷ z ∷ r) l c i (hx ◂ a) = let t = find i in go t (all_part t.part a)
    where
      go : (t : Triangle x (y ∷ z ∷ r) p) → All (In h) (t.b ∷ t.c ∷ []) → In h p
      go t (hb ◂ (hc ◂ ∅)) = triangle (ccw_three (ccw_part (take t.part) c)) t.ob t.bc t.co h hx hb hc

  pub fan⁺ : (r : List Point) → 3 ≤ length r → CCW r → All Proper r → InRing r p → Proper p → All (Over h) r → Over h p
  fan⁺ [] l c w i wp a = absurd (omega arith)
  fan⁺ (x ∷ []) l c w i wp a = absurd (omega arith)
  fan⁺ (x ∷ y ∷ []) l c w i wp a = absurd (omega arith)
  fan⁺ (x ∷ y ∷ z ∷ r) l c (wx ◂ w) i wp (hx ◂ a) = let t = find i in go t (all_part t.part w) (all_part t.part a)
    where
      go : (t : Triangle x (y ∷ z ∷ r) p) → All Proper (t.b ∷ t.c ∷ []) → All (Over h) (t.b ∷ t.c ∷ []) → Over h p
      go t (wb ◂ (wc ◂ ∅)) (hb ◂ (hc ◂ ∅)) = triangle⁺ (ccw_three (ccw_part (take t.part) c)) t.ob t.bc t.co h wx wb wc wp hx hb hc

-- ---- the corners lie in the ring
star_walk : {x : Point} (y : Point) (ys : List Point) → Pairs (Left x) (y ∷ ys) → Walk (λ a b. LeftOn a b x) y ys x
star_walk {x} y [] q = last (twice23 x y)
star_walk {x} y (z ∷ zs) ((h ◂ a) ◂ᵖ q) = step (weaken (cycle h)) (star_walk z zs q)

star_in : (x : Point) (ys : List Point) → Pairs (Left x) ys → InRing (x ∷ ys) x
star_in x [] q = closed (last (twice12 x x))
star_in x (y ∷ ys) q = closed (step (twice13 x y) (star_walk y ys q))

pub corners_in : {r : List Point} → CCW r → All (InRing r) r
corners_in {r} c =
    all_at r (λ xs x ys e. subst (λ l. InRing l x) (sym e) (edges_turn (x ∷ ys) xs (star_in x (ys ++ xs) (ccw_star (ccw_turn xs (x ∷ ys) (subst CCW e c))))))

-- every edge has every corner left of it or on it
pub edges_left : {r : List Point} → CCW r → Edges (λ a b. All (LeftOn a b) r) r
edges_left c = edges_all (corners_in c)

-- a ring whose corners lie in another lies in it
pub ring_in : (s r : List Point) → 3 ≤ length s → CCW s → All (InRing r) s → {p : Point} → InRing s p → InRing r p
ring_in s r l cs a {p} i = edges_map (λ x y k. record { left_on = fan (through x y) p s l cs i (all_map (λ v e. e.left_on) k) }) (edges_all a)
