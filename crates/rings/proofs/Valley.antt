-- A corner of a ring that neither neighbour comes before, no corner comes before: seen from it every other lies
-- between its two edges, so no lower than both neighbours, and where it is level no further left.
use mathlib.Core.Path.{◌≡◌, subst}
use mathlib.Core.List.{List, [], ◌∷◌}
use mathlib.Core.Logic.{⊎_elim, ◌≢◌}
use Prim.Native.Nat.{ℕ, ◌≤◌, ◌<◌}
use native.Mathlib.Omega.{arith}
use native.Mathlib.Decide.{ℕ_discrete}
use lib.IntN.{ℤ, ◌*ℤ◌}
use lib.ListN.{length}
use lib.Signed.{◌≤ℤ◌, ◌<ℤ◌}
use Rattle.whole.proofs.Expressions.{neg, ◌⊗◌, Env}
use Rattle.whole.proofs.Order.{≤_antisym, ≤_total}
use Rattle.whole.proofs.Certificates.{ge_by, clash, le, lt, po, eq, ◌⊞◌, ◌⊠◌}
use Rattle.rings.specs.Points.{Point, Left, Before, lower, level, value, through}
use Rattle.rings.specs.Rings.{at, Edge, along, closing, Ring}
use Rattle.rings.proofs.Plane.{x_of, y_of, w_of, corners, det_of}
use Rattle.rings.proofs.Before.{before_asym}

-- ---- a point that does not come before another
not_less : (a b : ℤ) → (b <ℤ a → ⊥) → a ≤ℤ b
not_less a b f = ⊎_elim (λ k. k) (λ k. absurd (f k)) (≤_total a b)

module _ {p v : Point} (f : Before p v → ⊥) where
  no_lower : (v.Y *ℤ p.W) ≤ℤ (p.Y *ℤ v.W)
  no_lower = not_less (v.Y *ℤ p.W) (p.Y *ℤ v.W) (λ k. f (lower k))

  no_further_left : p.Y *ℤ v.W ≡ v.Y *ℤ p.W → (v.X *ℤ p.W) ≤ℤ (p.X *ℤ v.W)
  no_further_left e = not_less (v.X *ℤ p.W) (p.X *ℤ v.W) (λ k. f (level e k))

-- ---- from p by v to q, and x between these two edges
-- det(p,v,q)·(x.Y·v.W - v.Y·x.W) = det(v,q,x)·(p.Y·v.W - v.Y·p.W) + det(p,v,x)·(q.Y·v.W - v.Y·q.W), and so of X
module _ {p v q x : Point} (pvq : Left p v q) (pvx : Left p v x) (vqx : Left v q x) where
  abbrev ρ : Env
  ρ = corners (p ∷ v ∷ q ∷ x ∷ [])

  valley_between : (Before p v → ⊥) → (Before q v → ⊥) → Before x v → ⊥
  unfolding value through
  valley_between f g (lower k) =
      clash ρ
      (po (det_of 1 2 3) vqx.left ⊠ le (y_of 1 ⊗ w_of 0) (y_of 0 ⊗ w_of 1) (no_lower f)
      ⊞ po (det_of 0 1 3) pvx.left ⊠ le (y_of 1 ⊗ w_of 2) (y_of 2 ⊗ w_of 1) (no_lower g) ⊞ po (det_of 0 1 2) pvq.left ⊠ lt (y_of 3 ⊗ w_of 1) (y_of 1 ⊗ w_of 3) k) tt
  valley_between f g (level e k) =
      clash ρ
      (po (det_of 1 2 3) vqx.left ⊠ le (x_of 1 ⊗ w_of 0) (x_of 0 ⊗ w_of 1) (no_further_left f p_level)
      ⊞ po (det_of 0 1 3) pvx.left ⊠ le (x_of 1 ⊗ w_of 2) (x_of 2 ⊗ w_of 1) (no_further_left g q_level)
      ⊞ po (det_of 0 1 2) pvq.left ⊠ lt (x_of 3 ⊗ w_of 1) (x_of 1 ⊗ w_of 3) k) tt
    where
      p_level : p.Y *ℤ v.W ≡ v.Y *ℤ p.W
      p_level =
          ≤_antisym (ge_by ρ (po (det_of 1 2 3) vqx.left) (y_of 0 ⊗ w_of 1) (y_of 1 ⊗ w_of 0)
          (po (det_of 0 1 3) pvx.left ⊠ le (y_of 1 ⊗ w_of 2) (y_of 2 ⊗ w_of 1) (no_lower g)
          ⊞ eq (neg (det_of 0 1 2)) (y_of 3 ⊗ w_of 1) (y_of 1 ⊗ w_of 3) e) tt) (no_lower f)

      q_level : q.Y *ℤ v.W ≡ v.Y *ℤ q.W
      q_level =
          ≤_antisym (ge_by ρ (po (det_of 0 1 3) pvx.left) (y_of 2 ⊗ w_of 1) (y_of 1 ⊗ w_of 2)
          (po (det_of 1 2 3) vqx.left ⊠ le (y_of 1 ⊗ w_of 0) (y_of 0 ⊗ w_of 1) (no_lower f)
          ⊞ eq (neg (det_of 0 1 2)) (y_of 3 ⊗ w_of 1) (y_of 1 ⊗ w_of 3) e) tt) (no_lower g)

-- ---- in a ring, by places
apart : {n h i k : ℕ} → 3 ≤ n → Edge n h i → Edge n i k → (k < n) × (k ≢ h) × (k ≢ i)
apart t (along a) (along b) = (omega arith, omega arith, omega arith)
apart t (along a) (closing b) = (omega arith, omega arith, omega arith)
apart t (closing a) (along b) = (omega arith, omega arith, omega arith)
apart t (closing a) (closing b) = absurd (omega arith)

pub valley : {r : List Point} {h i k : ℕ} → Ring r → Edge (length r) h i → Edge (length r) i k → (Before (at r h) (at r i) → ⊥)
    → (Before (at r k) (at r i) → ⊥) → (j : ℕ) → j < length r → Before (at r j) (at r i) → ⊥
valley {r} {h} {i} {k} g hi ik f e j l b = go (ℕ_discrete j h) (ℕ_discrete j i) (ℕ_discrete j k)
  where
    go : Dec (j ≡ h) → Dec (j ≡ i) → Dec (j ≡ k) → ⊥
    go (yes a) c d = f (subst (λ (m : ℕ). Before (at r m) (at r i)) a b)
    go (no a) (yes c) d = let s = subst (λ (m : ℕ). Before (at r m) (at r i)) c b in before_asym s s
    go (no a) (no c) (yes d) = e (subst (λ (m : ℕ). Before (at r m) (at r i)) d b)
    go (no a) (no c) (no d) =
        let t = apart g.three hi ik in
        let left = g.convex.left_of in
        valley_between (left h i k hi t.0 t.1 t.2) (left h i j hi l a c) (left i k j ik l c d) f e b
