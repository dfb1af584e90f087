-- A ring can be started at its lowest, then leftmost corner, in one way: there is a corner that no other comes before, and no other is the same point.
use mathlib.Core.Path.{◌≡◌, refl, ap}
use mathlib.Core.List.{List, [], ◌∷◌, ◌++◌}
use mathlib.Core.Logic.{◌⊎◌, inl, inr}
use Prim.Native.Nat.{◌≤◌}
use native.Mathlib.Omega.{arith}
use lib.ListN.{length}
use Rattle.rings.specs.Lists.{All, ∅, ◌◂◌, Turned}
use Rattle.rings.specs.Points.{Point, Proper, Same, Alike, Before}
use Rattle.rings.specs.Rings.{Ring, Starts}
use Rattle.rings.proofs.Plane.{cycle, left_irrefl}
use Rattle.rings.proofs.Lists.{◌◂ᵖ◌, all_map, all_zip, all_head, all_tail, edges_turned, turned_length, turned_all, turned_back}
use Rattle.rings.proofs.Convex.{CCW, ◌◂ᶜ◌, ccw_turned}
use Rattle.rings.proofs.Linear.{ccw_of_convex, convex_of_ccw}
use Rattle.rings.proofs.Same.{same_sym, same_first}
use Rattle.rings.proofs.Before.{before_asym, before_trans, before_same, before_cases}
use Rattle.rings.proofs.Unique.{same_points_alike}

pub turned_ring : {r s : List Point} → Turned r s → Ring r → Ring s
turned_ring t g = record {
  three = let e = turned_length t in let k = g.three in omega arith;
  proper = turned_all t g.proper;
  convex = convex_of_ccw (ccw_turned t (ccw_of_convex g.convex));
}

-- ---- from a corner that no other comes before
others : (v : Point) (vs : List Point) → 3 ≤ length (v ∷ vs) → CCW (v ∷ vs) → All (λ q. Same v q → ⊥) vs
others v [] l c = absurd (omega arith)
others v (a ∷ []) l c = absurd (omega arith)
others v (a ∷ b ∷ vs) l (((ab ◂ k) ◂ᵖ q) ◂ᶜ c) =
    (λ s. left_irrefl (cycle (cycle (same_first s ab)))) ◂ ((λ s. left_irrefl (cycle (same_first s ab))) ◂ all_map (λ x ax s. left_irrefl (cycle (same_first s ax))) k)

pub starts_at : (v : Point) (vs : List Point) → Ring (v ∷ vs) → All (λ q. Before q v → ⊥) vs → Starts (v ∷ vs)
starts_at v vs g a =
    all_zip {Q = λ q. (Before q v → ⊥) × (Same v q → ⊥)} (λ q hq k. go k.0 k.1 (before_cases v q (all_head g.proper) hq))
    (all_tail g.proper) (all_zip (λ q b s. (b, s)) a (others v vs g.three (ccw_of_convex g.convex)))
  where
    go : {q : Point} → (Before q v → ⊥) → (Same v q → ⊥) → Before v q ⊎ (Same v q ⊎ Before q v) → Before v q
    go b s (inl k) = k
    go b s (inr (inl k)) = absurd (s k)
    go b s (inr (inr k)) = absurd (b k)

-- ---- there is one
record Least (r : List Point) : Type 0 where
  front : List Point
  v : Point
  back : List Point
  is : r ≡ front ++ (v ∷ back)
  proper : Proper v
  least : All (λ q. Before q v → ⊥) r

least_of_lem : (v : Point) (vs : List Point) → All Proper (v ∷ vs) → Least (v ∷ vs)
least_of_lem v [] (h ◂ ∅) = record { front = []; v = v; back = []; is = refl; proper = h; least = (λ k. before_asym k k) ◂ ∅ }
least_of_lem v (w ∷ vs) (h ◂ a) = let m = least_of_lem w vs a in pick m (before_cases v m.v h m.proper)
  where
    keep : (m : Least (w ∷ vs)) → (Before v m.v → ⊥) → Least (v ∷ w ∷ vs)
    keep m n = record { front = v ∷ m.front; v = m.v; back = m.back; is = ap (λ l. v ∷ l) m.is; proper = m.proper; least = n ◂ m.least }

    pick : (m : Least (w ∷ vs)) → Before v m.v ⊎ (Same v m.v ⊎ Before m.v v) → Least (v ∷ w ∷ vs)
    pick m (inl k) = record {
      front = [];
      v = v;
      back = w ∷ vs;
      is = refl;
      proper = h;
      least = (λ j. before_asym j j) ◂ all_zip (λ q hq n j. n (before_trans hq h m.proper j k)) a m.least;
    }
    pick m (inr (inl s)) = keep m (λ j. let i = before_same (same_sym s) j in before_asym i i)
    pick m (inr (inr k)) = keep m (λ j. before_asym j k)

pub start : (r : List Point) → Ring r → (s : List Point) × Turned r s × Starts s
start [] g = let l = g.three in absurd (omega arith)
start (a ∷ r) g = go (least_of_lem a r g.proper)
  where
    go : Least (a ∷ r) → (s : List Point) × Turned (a ∷ r) s × Starts s
    go m =
        let t : Turned (a ∷ r) (m.v ∷ (m.back ++ m.front)) = record { front = m.front; back = m.v ∷ m.back; was = m.is; now = refl } in
        (m.v ∷ (m.back ++ m.front), t, starts_at m.v (m.back ++ m.front) (turned_ring t g) (all_tail (turned_all t m.least)))

-- ---- and it is one, as points of the plane
pub starts_alike : {r s t : List Point} → Ring r → Turned r s → Turned r t → Starts s → Starts t → Alike s t
starts_alike {s = s} {t = t} g a b ss st =
    same_points_alike s t (turned_ring a g) (turned_ring b g) ss st
    (λ p w. (λ i. edges_turned b (edges_turned (turned_back a) i), λ i. edges_turned a (edges_turned (turned_back b) i)))
