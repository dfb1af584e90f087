-- Strict convexity in linear time: each corner is left of the first edge, neighbours turn left as seen from the first corner, and neighbours turn left.
use mathlib.Core.List.{List, [], ◌∷◌}
use mathlib.Core.Logic.{◌≢◌}
use Prim.Native.Nat.{ℕ, zero, suc, ◌≤◌, ◌<◌}
use native.Mathlib.Omega.{arith}
use native.Mathlib.Decide.{dec_lt}
use lib.ListN.{length}
use Rattle.whole.proofs.Certificates.{gt_by, po, ◌⊞◌, ◌⊠◌}
use Rattle.rings.specs.Lists.{All, ∅, ◌◂◌}
use Rattle.rings.specs.Points.{Point, Left, value, through}
use Rattle.rings.specs.Rings.{at, Edge, along, closing, StrictlyConvex}
use Rattle.rings.proofs.Plane.{cycle, turn, corners, det_of, nought}
use Rattle.rings.proofs.Lists.{Pairs, ∅ᵖ, ◌◂ᵖ◌, all_zip, pairs_tail}
use Rattle.rings.proofs.Convex.{CCW, ∅ᶜ, ◌◂ᶜ◌}

pub record Linear (r : List Point) : Type 0 where
  pub first : (j : ℕ) → 2 ≤ j → j < length r → Left (at r 0) (at r 1) (at r j)
  pub seen : (i : ℕ) → 1 ≤ i → suc i < length r → Left (at r 0) (at r i) (at r (suc i))
  pub turns : (i : ℕ) → suc (suc i) < length r → Left (at r i) (at r (suc i)) (at r (suc (suc i)))

-- ---- the same of the list: each two neighbours; each three
data Neighbours (R : Point → Point → Type 0) : List Point → Type 0 where
  two₀ : Neighbours R []
  two₁ : {a : Point} → Neighbours R (a ∷ [])
  two : {a b : Point} {r : List Point} → R a b → Neighbours R (b ∷ r) → Neighbours R (a ∷ b ∷ r)

data Triples (R : Point → Point → Point → Type 0) : List Point → Type 0 where
  three₀ : Triples R []
  three₁ : {a : Point} → Triples R (a ∷ [])
  three₂ : {a b : Point} → Triples R (a ∷ b ∷ [])
  three : {a b c : Point} {r : List Point} → R a b c → Triples R (b ∷ c ∷ r) → Triples R (a ∷ b ∷ c ∷ r)

pub all_of_places : {P : Point → Type 0} (r : List Point) → ((t : ℕ) → t < length r → P (at r t)) → All P r
all_of_places [] f = ∅
all_of_places (x ∷ r) f = f 0 (omega arith) ◂ all_of_places r (λ t h. f (suc t) (omega arith))

two_of_places : {R : Point → Point → Type 0} (r : List Point) → ((t : ℕ) → suc t < length r → R (at r t) (at r (suc t))) → Neighbours R r
two_of_places [] f = two₀
two_of_places (x ∷ []) f = two₁
two_of_places (x ∷ y ∷ r) f = two (f 0 (omega arith)) (two_of_places (y ∷ r) (λ t h. f (suc t) (omega arith)))

three_of_places : {R : Point → Point → Point → Type 0} (r : List Point)
    → ((t : ℕ) → suc (suc t) < length r → R (at r t) (at r (suc t)) (at r (suc (suc t)))) → Triples R r
three_of_places [] f = three₀
three_of_places (x ∷ []) f = three₁
three_of_places (x ∷ y ∷ []) f = three₂
three_of_places (x ∷ y ∷ z ∷ r) f = three (f 0 (omega arith)) (three_of_places (y ∷ z ∷ r) (λ t h. f (suc t) (omega arith)))

-- turning left is transitive, right of the line to r too
turn_right : {o r x y z : Point} → Left o y r → Left o x r → Left o z r → Left o x y → Left o y z → Left o x z
unfolding value through
turn_right {o} {r} {x} {y} {z} yr xr zr xy yz = record {
  left =
      gt_by (corners (o ∷ r ∷ x ∷ y ∷ z ∷ [])) (po (det_of 0 3 1) yr.left) nought (det_of 0 2 4)
      (po (det_of 0 2 1) xr.left ⊠ po (det_of 0 3 4) yz.left ⊞ po (det_of 0 4 1) zr.left ⊠ po (det_of 0 2 3) xy.left) tt;
}

-- a convex quarter a b c d round o: if a b c and b c d turn left, so do a b d and a c d
module _ {o a b c d : Point} (oab : Left o a b) (obc : Left o b c) (ocd : Left o c d) (oac : Left o a c) (obd : Left o b d) (abc : Left a b c) (bcd : Left b c d) where
  ahead : Left a b d
  ahead = cycle (cycle (turn (cycle obc) bcd (cycle abc) (cycle obd) (cycle (cycle oab))))

  behind : Left a c d
  behind = cycle (cycle (turn_right (cycle (cycle obc)) (cycle bcd) (cycle (cycle abc)) (cycle ocd) (cycle (cycle oac))))

-- from o: all in order
module _ {o r : Point} where
  link : {x : Point} {vs : List Point} → Left o r x → All (Left o r) vs → Neighbours (Left o) (x ∷ vs) → Pairs (Left o) vs → All (Left o x) vs
  link rx ∅ t q = ∅
  link rx (ry ◂ rs) (two xy t) (a ◂ᵖ q) = xy ◂ all_zip (λ z rz yz. turn ry rx rz xy yz) rs a

  star : {vs : List Point} → All (Left o r) vs → Neighbours (Left o) vs → Pairs (Left o) vs
  star ∅ t = ∅ᵖ
  star (rx ◂ ∅) t = ∅ ◂ᵖ ∅ᵖ
  star (rx ◂ (ry ◂ rs)) (two xy t) = let q = star (ry ◂ rs) t in link rx (ry ◂ rs) (two xy t) q ◂ᵖ q

module _ {o : Point} where
  -- the edge a b has all later corners left
  edges_ahead : {a b : Point} {r : List Point} → Pairs (Left o) (a ∷ b ∷ r) → Triples Left (a ∷ b ∷ r) → All (Left a b) r
  edges_ahead {r = []} q t = ∅
  edges_ahead {b} {r = c ∷ r} ((oab ◂ (oac ◂ oa)) ◂ᵖ ((obc ◂ ob) ◂ᵖ (oc ◂ᵖ q))) (three abc t) =
      abc ◂ all_zip {Q = λ d. Left o c d × Left b c d} (λ d obd k. ahead oab obc k.0 oac obd abc k.1) ob
      (all_zip (λ d x y. (x, y)) oc (edges_ahead ((obc ◂ ob) ◂ᵖ (oc ◂ᵖ q)) t))

  -- a is left of each later edge
  edges_past : {a b : Point} {r : List Point} → Pairs (Left o) (a ∷ b ∷ r) → Triples Left (a ∷ b ∷ r) → Neighbours (Left a) (b ∷ r)
  edges_past {r = []} q t = two₁
  edges_past {a} {b} {r = c ∷ r} ((oab ◂ (oac ◂ oa)) ◂ᵖ ((obc ◂ ob) ◂ᵖ q)) (three abc t) = two abc (go oab oac oa obc ob q abc t)
    where
      go : {x y : Point} {s : List Point} → Left o a x → Left o a y → All (Left o a) s → Left o x y → All (Left o x) s → Pairs (Left o) (y ∷ s)
          → Left a x y → Triples Left (x ∷ y ∷ s) → Neighbours (Left a) (y ∷ s)
      go {s = []} oax oay ab oxy xs p axy t = two₁
      go {s = z ∷ s} oax oay (oaz ◂ ab) oxy (oxz ◂ xs) ((oyz ◂ ys) ◂ᵖ p) axy (three xyz t) =
          let ayz = behind oax oxy oyz oay oxz axy xyz in
          two ayz (go oay oaz ab oyz ys p ayz t)

  all_stars : {a : Point} {r : List Point} → Pairs (Left o) (a ∷ r) → Triples Left (a ∷ r) → CCW (a ∷ r)
  all_stars {r = []} q t = ∅ᵖ ◂ᶜ ∅ᶜ
  all_stars {r = b ∷ []} q t = (∅ ◂ᵖ ∅ᵖ) ◂ᶜ (∅ᵖ ◂ᶜ ∅ᶜ)
  all_stars {r = b ∷ c ∷ r} q (three abc t) =
      let l = edges_ahead q (three abc t) in
      (l ◂ᵖ star l (tail (edges_past q (three abc t)))) ◂ᶜ all_stars (pairs_tail q) t
    where
      tail : {R : Point → Point → Type 0} {x y : Point} {s : List Point} → Neighbours R (x ∷ y ∷ s) → Neighbours R (y ∷ s)
      tail (two h k) = k

pub ccw_of_linear : (r : List Point) → Linear r → CCW r
ccw_of_linear [] l = ∅ᶜ
ccw_of_linear (o ∷ []) l = ∅ᵖ ◂ᶜ ∅ᶜ
ccw_of_linear (o ∷ a ∷ r) l =
    go (all_of_places r (λ t h. l.first (suc (suc t)) (omega arith) (omega arith)))
    (two_of_places (a ∷ r) (λ t h. l.seen (suc t) (omega arith) (omega arith))) (three_of_places (o ∷ a ∷ r) l.turns)
  where
    go : {s : List Point} → All (Left o a) s → Neighbours (Left o) (a ∷ s) → Triples Left (o ∷ a ∷ s) → CCW (o ∷ a ∷ s)
    go ∅ t k = (∅ ◂ᵖ ∅ᵖ) ◂ᶜ (∅ᵖ ◂ᶜ ∅ᶜ)
    go (h ◂ f) (two x t) (three y k) = let q = (h ◂ f) ◂ᵖ star (h ◂ f) t in q ◂ᶜ all_stars q k

-- ---- by places
pub place_all : {P : Point → Type 0} {r : List Point} → All P r → (t : ℕ) → t < length r → P (at r t)
place_all ∅ t h = absurd (omega arith)
place_all (p ◂ a) zero h = p
place_all (p ◂ a) (suc t) h = place_all a t (omega arith)

place_pairs : {R : Point → Point → Type 0} {r : List Point} → Pairs R r → (i j : ℕ) → i < j → j < length r → R (at r i) (at r j)
place_pairs ∅ᵖ i j h k = absurd (omega arith)
place_pairs (a ◂ᵖ q) zero zero h k = absurd (omega arith)
place_pairs (a ◂ᵖ q) zero (suc j) h k = place_all a j (omega arith)
place_pairs (a ◂ᵖ q) (suc i) zero h k = absurd (omega arith)
place_pairs (a ◂ᵖ q) (suc i) (suc j) h k = place_pairs q i j (omega arith) (omega arith)

pub place_ccw : {r : List Point} → CCW r → (i j k : ℕ) → i < j → j < k → k < length r → Left (at r i) (at r j) (at r k)
place_ccw ∅ᶜ i j k a b c = absurd (omega arith)
place_ccw (q ◂ᶜ d) i zero k a b c = absurd (omega arith)
place_ccw (q ◂ᶜ d) i (suc j) zero a b c = absurd (omega arith)
place_ccw (q ◂ᶜ d) zero (suc j) (suc k) a b c = place_pairs q j k (omega arith) (omega arith)
place_ccw (q ◂ᶜ d) (suc i) (suc j) (suc k) a b c = place_ccw d i j k (omega arith) (omega arith) (omega arith)

pub convex_of_ccw : {r : List Point} → CCW r → StrictlyConvex r
convex_of_ccw {r} c = record { left_of = λ i k j e. go i k j e }
  where
    next : (i j : ℕ) → suc i < length r → j < length r → j ≢ i → j ≢ suc i → Dec (j < i) → Left (at r i) (at r (suc i)) (at r j)
    next i j hi hj ni ns (yes h) = cycle (place_ccw c j i (suc i) h (omega arith) hi)
    next i j hi hj ni ns (no h) = place_ccw c i (suc i) j (omega arith) (omega arith) hj

    go : (i k j : ℕ) → Edge (length r) i k → j < length r → j ≢ i → j ≢ k → Left (at r i) (at r k) (at r j)
    go i k j (along h) hj ni nk = next i j h hj ni nk (dec_lt j i)
    go i k j (closing e) hj ni nk = cycle (cycle (place_ccw c 0 j i (omega arith) (omega arith) (omega arith)))

linear_of_convex : {r : List Point} → StrictlyConvex r → Linear r
linear_of_convex c = record {
  first = λ j h k. c.left_of 0 1 j (along (omega arith)) k (omega arith) (omega arith);
  seen = λ i h k. cycle (cycle (c.left_of i (suc i) 0 (along k) (omega arith) (omega arith) (omega arith)));
  turns = λ i h. c.left_of i (suc i) (suc (suc i)) (along (omega arith)) h (omega arith) (omega arith);
}

pub ccw_of_convex : {r : List Point} → StrictlyConvex r → CCW r
ccw_of_convex {r} c = ccw_of_linear r (linear_of_convex c)
