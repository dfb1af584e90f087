-- Walked round, a list of corners is strictly convex exactly where every turn goes left and it begins to rise once.
use mathlib.Core.Path.{◌≡◌, refl, sym, ap, ◌∙◌, subst, transport}
use mathlib.Core.List.{List, [], ◌∷◌}
use mathlib.Core.Logic.{◌⊎◌, inl, inr, ◌≢◌}
use Prim.Native.Nat.{ℕ, zero, suc, ◌+◌, ◌-◌, ◌≤◌, ◌<◌}
use native.Mathlib.Omega.{arith}
use native.Mathlib.Decide.{ℕ_discrete, dec_lt}
use lib.ListN.{length}
use lib.IntN.{pos}
use Rattle.rings.specs.Lists.{All}
use Rattle.rings.specs.Points.{Point, Left, LeftOn, Proper}
use Rattle.rings.specs.Rings.{at, Edge, along, closing, StrictlyConvex}
use Rattle.rings.proofs.Plane.{cycle}
use Rattle.rings.proofs.Convex.{CCW}
use Rattle.rings.proofs.Linear.{place_all, convex_of_ccw}
use Rattle.rings.proofs.Hill.{Up, Down, from}
use Rattle.rings.proofs.Rises.{Round, Rise, Once, ccw_of_rise, not_lower, rise_lowest, lowest}

-- ---- edges
edge_start : {n i k : ℕ} → Edge n i k → i < n
edge_start (along h) = omega arith
edge_start (closing e) = omega arith

pub edge_end : {n i k : ℕ} → Edge n i k → k < n
edge_end (along h) = h
edge_end (closing e) = omega arith

edge_same : {n i k m : ℕ} → Edge n i k → Edge n i m → k ≡ m
edge_same (along h) (along l) = refl
edge_same (along h) (closing l) = absurd (omega arith)
edge_same (closing h) (along l) = absurd (omega arith)
edge_same (closing h) (closing l) = refl

edge_last : {n i k : ℕ} → Edge n i k → k ≡ 0 → suc i ≡ n
edge_last (along h) z = absurd (omega arith)
edge_last (closing e) z = e

module _ {n : ℕ} (three : 3 ≤ n) where
  one_apart : {i k : ℕ} → Edge n i k → k ≢ i
  one_apart (along h) e = omega arith
  one_apart (closing l) e = omega arith

  two_apart : {i k m : ℕ} → Edge n i k → Edge n k m → m ≢ i
  two_apart (along h) (along l) e = omega arith
  two_apart (along h) (closing l) e = omega arith
  two_apart (closing h) (along l) e = omega arith
  two_apart (closing h) (closing l) e = omega arith

-- ---- the places of n corners, walked round from the last
pub record Tour (n : ℕ) (place : ℕ → ℕ) : Type 0 where
  pub edge : (i : ℕ) → Edge n (place i) (place (suc i))
  pub is : (i : ℕ) → i < n → place (suc i) ≡ i

-- what holds in one round holds in all
in_all_rounds : {n : ℕ} → 1 ≤ n → {P : ℕ → Type 0} → ((i j : ℕ) → j ≡ i + n → P i → P j) → ((i : ℕ) → i < n → P i) → (m i : ℕ) → i ≤ m → P i
in_all_rounds some more f zero i l = f i (omega arith)
in_all_rounds {n} some {P} more f (suc m) i l = go (in_all_rounds some more f m) (dec_lt i n)
  where
    go : ((j : ℕ) → j ≤ m → P j) → Dec (i < n) → P i
    go earlier (yes h) = f i h
    go earlier (no h) = more (i - n) i (omega arith) (earlier (i - n) (omega arith))

list_of : (r : List Point) (p : ℕ → Point) → ((i : ℕ) → i < length r → p i ≡ at r i) → from p (length r) ≡ r
list_of [] p f = refl
list_of (v ∷ r) p f = λ t. f 0 (omega arith) t ∷ list_of r (λ i. p (suc i)) (λ i h. f (suc i) (omega arith)) t

module _ (r : List Point) (three : 3 ≤ length r) {place : ℕ → ℕ} (t : Tour (length r) place) where
  abbrev p : ℕ → Point
  p i = at r (place i)

  pub again : (i j : ℕ) → j ≡ i + length r → place j ≡ place i
  again zero zero e = refl
  again zero (suc j) e = let k = edge_last (t.edge 0) (t.is 0 (omega arith)) in t.is j (omega arith) ∙ omega arith
  again (suc i) zero e = absurd (omega arith)
  again (suc i) (suc j) e = edge_same (subst (λ (m : ℕ). Edge (length r) m (place (suc j))) (again i j (omega arith)) (t.edge j)) (t.edge i)

  -- ---- a ring turns left, and begins to rise in its lowest corner only
  module _ (c : StrictlyConvex r) where
    pub ring_turns : (i : ℕ) → Left (p i) (p (suc i)) (p (suc (suc i)))
    ring_turns i =
        c.left_of (place i) (place (suc i)) (place (suc (suc i))) (t.edge i) (edge_end (t.edge (suc i)))
        (two_apart three (t.edge i) (t.edge (suc i))) (one_apart three (t.edge (suc i)))

    module _ {e : Point} (way : (i : ℕ) → Up e (p i) (p (suc i)) ⊎ Down e (p i) (p (suc i))) where
      -- k is the place of a lowest corner
      module _ (k : ℕ) (l : k < length r) (low : (j : ℕ) → j < length r → LeftOn (at r k) e (at r j)) where
        low_to : (i : ℕ) → LeftOn (at r k) e (p i)
        low_to i = low (place i) (edge_start (t.edge i))

        from_low : (i : ℕ) → LeftOn (p (suc k)) e (p i)
        from_low i = subst (λ (m : ℕ). LeftOn (at r m) e (p i)) (sym (t.is k l)) (low_to i)

        rise : Rise e p k
        rise = (down (way k), up (way (suc k)))
          where
            down : Up e (p k) (p (suc k)) ⊎ Down e (p k) (p (suc k)) → Down e (p k) (p (suc k))
            down (inl u) = absurd (not_lower (from_low k) (cycle (cycle u)))
            down (inr d) = d

            up : Up e (p (suc k)) (p (suc (suc k))) ⊎ Down e (p (suc k)) (p (suc (suc k))) → Up e (p (suc k)) (p (suc (suc k)))
            up (inl u) = u
            up (inr d) = absurd (not_lower (from_low (suc (suc k))) d)

        no_other : (i : ℕ) → i < length r → i ≢ k → Rise e p i → ⊥
        no_other i m d (a, b) = cases (ℕ_discrete k (place i)) (ℕ_discrete k (place (suc (suc i))))
          where
            away : k ≢ place (suc i)
            away x = d (sym (t.is i m) ∙ sym x)

            not_at : (j : ℕ) → k ≡ place j → Down e (p j) (p (suc i)) → ⊥
            not_at j x h = not_lower (low_to (suc i)) (subst (λ (m : ℕ). Down e (at r m) (p (suc i))) (sym x) h)

            cases : Dec (k ≡ place i) → Dec (k ≡ place (suc (suc i))) → ⊥
            cases (yes x) y = not_at i x a
            cases (no x) (yes y) = not_at (suc (suc i)) y (cycle (cycle b))
            cases (no x) (no y) =
                rise_lowest (low_to (suc i)) (ring_turns i) (c.left_of (place i) (place (suc i)) k (t.edge i) l x away)
                (c.left_of (place (suc i)) (place (suc (suc i))) k (t.edge (suc i)) l away y) a b

      pub ring_rises : e.W ≡ pos 0 → All Proper r → Once (length r) (Rise e p)
      ring_rises far w = go (lowest far (at r) (length r - 1) (λ j h. place_all w j (omega arith)))
        where
          go : (k : ℕ) × (k ≤ length r - 1) × ((j : ℕ) → j ≤ length r - 1 → LeftOn (at r k) e (at r j)) → Once (length r) (Rise e p)
          go (k, h, f) =
              let l : k < length r = omega arith in
              let low : (j : ℕ) → j < length r → LeftOn (at r k) e (at r j) = λ j m. f j (omega arith) in
              record { k = k; below = l; holds = rise k l low; only = no_other k l low }

  -- ---- where one round turns left and begins to rise once, the list is a ring
  module _ (left : (i : ℕ) → i < length r → Left (p i) (p (suc i)) (p (suc (suc i)))) where
    pub turns_on : (i : ℕ) → Left (p i) (p (suc i)) (p (suc (suc i)))
    turns_on i = in_all_rounds {n = length r} (omega arith) {P = λ i. Left (p i) (p (suc i)) (p (suc (suc i)))} more left i i (omega arith)
      where
        more : (i j : ℕ) → j ≡ i + length r → Left (p i) (p (suc i)) (p (suc (suc i))) → Left (p j) (p (suc j)) (p (suc (suc j)))
        more i j e h =
            transport (λ x. Left (at r (sym (again i j e) x)) (at r (sym (again (suc i) (suc j) (omega arith)) x))
            (at r (sym (again (suc (suc i)) (suc (suc j)) (omega arith)) x))) h

    module _ {e : Point} (way : (i : ℕ) → Up e (p i) (p (suc i)) ⊎ Down e (p i) (p (suc i))) where
      pub ring_of_rise : e.W ≡ pos 0 → All Proper r → Once (length r) (Rise e p) → StrictlyConvex r
      ring_of_rise far w o =
          convex_of_ccw (subst CCW (list_of r (λ i. p (suc i)) (λ i h. ap (at r) (t.is i h))) (ccw_of_rise o.k p round o.below o.holds o.only))
        where
          round : Round e p (length r)
          round = record { far = far; proper = λ i. place_all w (place i) (edge_start (t.edge i)); again = λ i j l. ap (at r) (again i j l); left = turns_on; way = way }
