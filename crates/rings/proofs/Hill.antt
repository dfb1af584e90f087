-- A walk that turns left, goes up first and, once it goes down, goes down to where it began, is a ring: from its lowest corner its edges are seen one after the other.
use mathlib.Core.Path.{◌≡◌, refl, sym, ap, ◌∙◌, subst, transport}
use mathlib.Core.List.{List, [], ◌∷◌}
use mathlib.Core.Logic.{◌⊎◌, inl, inr}
use Prim.Native.Nat.{ℕ, zero, suc, ◌+◌, ◌-◌, ◌≤◌, ◌<◌}
use native.Mathlib.Omega.{arith}
use lib.ListN.{length}
use lib.IntN.{pos}
use Rattle.whole.proofs.Certificates.{gt_by, po, eq, ◌⊞◌, ◌⊠◌}
use Rattle.rings.specs.Points.{Point, Left, Proper, value, through}
use Rattle.rings.specs.Rings.{at}
use Rattle.rings.proofs.Plane.{w_of, corners, det_of, nought, cycle, turn}
use Rattle.rings.proofs.Linear.{Linear}

-- ---- up and down, as a point e tells that lies infinitely far to the side (W = 0)
abbrev pub Up : Point → Point → Point → Type 0
Up e a b = Left a e b

abbrev pub Down : Point → Point → Point → Type 0
Down e a b = Left a b e

module _ {e : Point} where
  up_trans : e.W ≡ pos 0 → {a b c : Point} → Proper a → Proper b → Proper c → Up e a b → Up e b c → Up e a c
  unfolding value through
  up_trans far {a} {b} {c} ha hb hc ab bc = record {
    left =
        gt_by (corners (e ∷ a ∷ b ∷ c ∷ [])) (po (w_of 2) hb) nought (det_of 1 0 3)
        (po (w_of 1) ha ⊠ po (det_of 2 0 3) bc.left ⊞ po (w_of 3) hc ⊠ po (det_of 1 0 2) ab.left ⊞ eq (det_of 1 2 3) (w_of 0) nought far) tt;
  }

  -- upwards from a by b to c, o below b
  climb : {o a b c : Point} → Up e a b → Up e b c → Up e o b → Left o a b → Left a b c → Left o b c
  unfolding value through
  climb {o} {a} {b} {c} ab bc ob oab abc = record {
    left =
        gt_by (corners (e ∷ o ∷ a ∷ b ∷ c ∷ [])) (po (det_of 2 0 3) ab.left) nought (det_of 1 3 4)
        (po (det_of 1 0 3) ob.left ⊠ po (det_of 2 3 4) abc.left ⊞ po (det_of 3 0 4) bc.left ⊠ po (det_of 1 2 3) oab.left) tt;
  }

  -- downwards from a by b to c, o below b
  descend : {o a b c : Point} → Down e a b → Down e b c → Up e o b → Left a b c → Left o b c → Left o a b
  unfolding value through
  descend {o} {a} {b} {c} ab bc ob abc obc = record {
    left =
        gt_by (corners (e ∷ o ∷ a ∷ b ∷ c ∷ [])) (po (det_of 3 4 0) bc.left) nought (det_of 1 2 3)
        (po (det_of 2 3 0) ab.left ⊠ po (det_of 1 3 4) obc.left ⊞ po (det_of 2 3 4) abc.left ⊠ po (det_of 1 0 3) ob.left) tt;
  }

-- ---- the corners of a walk, by their number
abbrev pub from : (ℕ → Point) → ℕ → List Point
from p zero = []
from p (suc n) = p 0 ∷ from (λ i. p (suc i)) n

from_length : (p : ℕ → Point) (n : ℕ) → length (from p n) ≡ n
from_length p zero = refl
from_length p (suc n) = ap suc (from_length (λ i. p (suc i)) n)

from_at : (p : ℕ → Point) (n j : ℕ) → j < n → at (from p n) j ≡ p j
from_at p zero j h = absurd (omega arith)
from_at p (suc n) zero h = refl
from_at p (suc n) (suc j) h = from_at (λ i. p (suc i)) n j (omega arith)

-- ---- a hill of n corners
pub record Hill (e : Point) (p : ℕ → Point) (n : ℕ) : Type 0 where
  pub far : e.W ≡ pos 0
  pub proper : (i : ℕ) → Proper (p i)
  pub closed : p n ≡ p 0
  pub left : (i : ℕ) → suc i < n → Left (p i) (p (suc i)) (p (suc (suc i)))
  pub way : (i : ℕ) → Up e (p i) (p (suc i)) ⊎ Down e (p i) (p (suc i))
  pub begins : Up e (p 0) (p 1)
  pub stays : (i : ℕ) → suc i < n → Down e (p i) (p (suc i)) → Up e (p (suc i)) (p (suc (suc i))) → ⊥

module _ {e : Point} {p : ℕ → Point} {n : ℕ} (h : Hill e p n) where
  abbrev Rises : ℕ → Type 0
  Rises i = Up e (p i) (p (suc i))

  abbrev Falls : ℕ → Type 0
  Falls i = Down e (p i) (p (suc i))

  abbrev Over : ℕ → Type 0
  Over i = Up e (p 0) (p i)

  abbrev Seen : ℕ → Type 0
  Seen i = Left (p 0) (p i) (p (suc i))

  over_more : (i j : ℕ) → Over i → Up e (p i) (p j) → Over j
  over_more i j a b = up_trans h.far (h.proper 0) (h.proper i) (h.proper j) a b

  back : {m : ℕ} → m ≡ n → p m ≡ p 0
  back l = ap p l ∙ h.closed

  falls_on : (i : ℕ) → suc i < n → Falls i → Falls (suc i)
  falls_on i l d = go (h.way (suc i))
    where
      go : Rises (suc i) ⊎ Falls (suc i) → Falls (suc i)
      go (inl u) = absurd (h.stays i l d u)
      go (inr k) = k

  rose : (i : ℕ) → suc i < n → Rises (suc i) → Rises i
  rose i l u = go (h.way i)
    where
      go : Rises i ⊎ Falls i → Rises i
      go (inl k) = k
      go (inr d) = absurd (h.stays i l d u)

  -- while it rises, from the first corner on
  over_up : (i : ℕ) → i < n → Rises i → Over (suc i)
  over_up zero l u = u
  over_up (suc i) l u = over_more (suc i) (suc (suc i)) (over_up i (omega arith) (rose i l u)) u

  seen_up : (i : ℕ) → suc i < n → Rises (suc i) → Seen (suc i)
  seen_up zero l u = h.left 0 l
  seen_up (suc i) l u =
      let v = rose (suc i) l u in
      climb v u (over_up (suc i) (omega arith) v) (seen_up i (omega arith) v) (h.left (suc i) l)

  -- while it falls, from the last corner back
  over_down : (d i : ℕ) → d + suc i ≡ n → Falls i → Over i
  over_down zero i l k = cycle (subst (λ (q : Point). Left (p i) q e) (back (omega arith)) k)
  over_down (suc d) i l k = over_more (suc i) i (over_down d (suc i) (omega arith) (falls_on i (omega arith) k)) (cycle k)

  seen_down : (d i : ℕ) → d + suc (suc i) ≡ n → Falls i → Seen i
  seen_down zero i l k = cycle (cycle (subst (λ (q : Point). Left (p i) (p (suc i)) q) (back (omega arith)) (h.left i (omega arith))))
  seen_down (suc d) i l k =
      let m = falls_on i (omega arith) k in
      descend k m (over_down (suc d) (suc i) (omega arith) m) (h.left i (omega arith)) (seen_down d (suc i) (omega arith) m)

  -- so everywhere
  over : (i : ℕ) → suc i < n → Over (suc i)
  over i l = go (h.way (suc i))
    where
      go : Rises (suc i) ⊎ Falls (suc i) → Over (suc i)
      go (inl u) = over_up i (omega arith) (rose i l u)
      go (inr k) = over_down (n - suc (suc i)) (suc i) (omega arith) k

  seen : (i : ℕ) → suc (suc i) < n → Seen (suc i)
  seen i l = go (h.way (suc i))
    where
      go : Rises (suc i) ⊎ Falls (suc i) → Seen (suc i)
      go (inl u) = seen_up i (omega arith) u
      go (inr k) = seen_down (n - suc (suc (suc i))) (suc i) (omega arith) k

  first : (i : ℕ) → suc (suc i) < n → Left (p 0) (p 1) (p (suc (suc i)))
  first zero l = h.left 0 (omega arith)
  first (suc i) l = turn (over (suc i) (omega arith)) (over 0 (omega arith)) (over (suc (suc i)) l) (first i (omega arith)) (seen (suc i) l)

  -- the corner with a number has this place
  places : (i j k : ℕ) → i < n → j < n → k < n → Left (p i) (p j) (p k) → Left (at (from p n) i) (at (from p n) j) (at (from p n) k)
  places i j k hi hj hk = transport (λ t. Left (sym (from_at p n i hi) t) (sym (from_at p n j hj) t) (sym (from_at p n k hk) t))

  pub hill_linear : Linear (from p n)
  hill_linear = record {
    first = first_at;
    seen = seen_at;
    turns = λ i l. let k = from_length p n in places i (suc i) (suc (suc i)) (omega arith) (omega arith) (omega arith) (h.left i (omega arith));
  }
    where
      first_at : (j : ℕ) → 2 ≤ j → j < length (from p n) → Left (at (from p n) 0) (at (from p n) 1) (at (from p n) j)
      first_at zero m l = absurd (omega arith)
      first_at (suc zero) m l = absurd (omega arith)
      first_at (suc (suc j)) m l = let k = from_length p n in places 0 1 (suc (suc j)) (omega arith) (omega arith) (omega arith) (first j (omega arith))

      seen_at : (j : ℕ) → 1 ≤ j → suc j < length (from p n) → Left (at (from p n) 0) (at (from p n) j) (at (from p n) (suc j))
      seen_at zero m l = absurd (omega arith)
      seen_at (suc j) m l = let k = from_length p n in places 0 (suc j) (suc (suc j)) (omega arith) (omega arith) (omega arith) (seen j (omega arith))
