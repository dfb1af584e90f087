-- A closed walk that turns left at every corner is a ring exactly where it begins to rise once: after the rise it is a hill; and a rise is below all other corners.
use mathlib.Core.Path.{◌≡◌, refl, ap, ◌∙◌, subst, transport}
use mathlib.Core.List.{[], ◌∷◌, ◌++◌}
use mathlib.Core.Logic.{◌⊎◌, inl, inr, ◌≢◌}
use Prim.Native.Nat.{ℕ, zero, suc, ◌+◌, ◌≤◌, ◌<◌}
use native.Mathlib.Omega.{arith}
use borrow.Author.Count.{below_more}
use native.Mathlib.Decide.{ℕ_discrete}
use lib.IntN.{pos}
use Rattle.whole.proofs.Certificates.{ge_by, clash, nn, po, eq, ◌⊞◌, ◌⊠◌}
use Rattle.rings.specs.Points.{Point, Left, LeftOn, Proper, value, through}
use Rattle.rings.proofs.Plane.{w_of, corners, det_of, nought, cycle_on, twice13, either_side}
use Rattle.rings.proofs.Convex.{CCW, ccw_turn}
use Rattle.rings.proofs.Linear.{ccw_of_linear}
use Rattle.rings.proofs.Hill.{Up, Down, from, hill_linear}

-- ---- a closed walk of n corners, by its steps; it begins to rise in the corner after step i
pub record Round (e : Point) (p : ℕ → Point) (n : ℕ) : Type 0 where
  pub far : e.W ≡ pos 0
  pub proper : (i : ℕ) → Proper (p i)
  pub again : (i j : ℕ) → j ≡ i + n → p j ≡ p i
  pub left : (i : ℕ) → Left (p i) (p (suc i)) (p (suc (suc i)))
  pub way : (i : ℕ) → Up e (p i) (p (suc i)) ⊎ Down e (p i) (p (suc i))

abbrev pub Rise : Point → (ℕ → Point) → ℕ → Type 0
Rise e p i = Down e (p i) (p (suc i)) × Up e (p (suc i)) (p (suc (suc i)))

-- A holds of one number below n
pub record Once (n : ℕ) (A : ℕ → Type 0) : Type 0 where
  pub k : ℕ
  pub below : k < n
  pub holds : A k
  pub only : (i : ℕ) → i < n → i ≢ k → A i → ⊥

-- ---- once: a ring
from_snoc : (p : ℕ → Point) (n : ℕ) → from p (suc n) ≡ from p n ++ (p n ∷ [])
from_snoc p zero = refl
from_snoc p (suc n) = ap (λ l. p 0 ∷ l) (from_snoc (λ i. p (suc i)) n)

step_back : (p : ℕ → Point) (n : ℕ) → p n ≡ p 0 → CCW (from (λ i. p (suc i)) n) → CCW (from p n)
step_back p zero h c = c
step_back p (suc n) h c = ccw_turn (from (λ i. p (suc i)) n) (p 0 ∷ []) (subst CCW (from_snoc (λ i. p (suc i)) n ∙ ap (λ q. from (λ i. p (suc i)) n ++ (q ∷ [])) h) c)

module _ {e : Point} {n : ℕ} where
  pub ccw_of_rise : (k : ℕ) (p : ℕ → Point) → Round e p n → k < n → Rise e p k → ((i : ℕ) → i < n → i ≢ k → Rise e p i → ⊥) → CCW (from (λ i. p (suc i)) n)
  ccw_of_rise zero p r l h only = ccw_of_linear (from (λ i. p (suc i)) n) (hill_linear record {
    far = r.far;
    proper = λ i. r.proper (suc i);
    closed = r.again 1 (suc n) (omega arith);
    left = λ i l. r.left (suc i);
    way = λ i. r.way (suc i);
    begins = h.1;
    stays = λ i l d u. only (suc i) l (omega arith) (d, u);
  })
  ccw_of_rise (suc k) p r l h only = step_back (λ i. p (suc i)) n (r.again 1 (suc n) (omega arith)) (ccw_of_rise k (λ i. p (suc i)) next (omega arith) h others)
    where
      next : Round e (λ i. p (suc i)) n
      next = record {
        far = r.far;
        proper = λ i. r.proper (suc i);
        again = λ i j l. r.again (suc i) (suc j) (omega arith);
        left = λ i. r.left (suc i);
        way = λ i. r.way (suc i);
      }

      others : (i : ℕ) → i < n → i ≢ k → Rise e p (suc i) → ⊥
      others i l d h = go (ℕ_discrete (suc i) n)
        where
          go : Dec (suc i ≡ n) → ⊥
          go (no f) = only (suc i) (omega arith) (omega arith) h
          go (yes f) =
              only 0 (omega arith) (omega arith)
              (transport (λ t. Down e (r.again 0 (suc i) (omega arith) t) (r.again 1 (suc (suc i)) (omega arith) t)
              × Up e (r.again 1 (suc (suc i)) (omega arith) t) (r.again 2 (suc (suc (suc i))) (omega arith) t)) h)

-- ---- a ring: once
module _ {e : Point} where
  lower_trans : e.W ≡ pos 0 → {a b c : Point} → Proper a → Proper b → Proper c → LeftOn a e b → LeftOn b e c → LeftOn a e c
  unfolding value through
  lower_trans far {a} {b} {c} ha hb hc ab bc = record {
    left_on =
        ge_by (corners (e ∷ a ∷ b ∷ c ∷ [])) (po (w_of 2) hb) nought (det_of 1 0 3)
        (po (w_of 1) ha ⊠ nn (det_of 2 0 3) bc.left_on ⊞ po (w_of 3) hc ⊠ nn (det_of 1 0 2) ab.left_on ⊞ eq (det_of 1 2 3) (w_of 0) nought far) tt;
  }

  pub not_lower : {v w : Point} → LeftOn v e w → Down e v w → ⊥
  unfolding value through
  not_lower {v} {w} h d = clash (corners (e ∷ v ∷ w ∷ [])) (nn (det_of 1 0 2) h.left_on ⊞ po (det_of 1 2 0) d.left) tt

  -- seen from a rise at w, v lies between the two edges, so above w
  pub rise_lowest : {a w b v : Point} → LeftOn v e w → Left a w b → Left a w v → Left w b v → Down e a w → Up e w b → ⊥
  unfolding value through
  rise_lowest {a} {w} {b} {v} h awb awv wbv aw wb =
      clash (corners (e ∷ a ∷ w ∷ b ∷ v ∷ []))
      (po (det_of 1 2 3) awb.left ⊠ nn (det_of 4 0 2) h.left_on ⊞ po (det_of 2 3 4) wbv.left ⊠ po (det_of 1 2 0) aw.left
      ⊞ po (det_of 2 0 3) wb.left ⊠ po (det_of 1 2 4) awv.left) tt

  -- of the first n and one more, one that is no higher than any
  pub lowest : e.W ≡ pos 0 → (q : ℕ → Point) (n : ℕ) → ((j : ℕ) → j ≤ n → Proper (q j)) → (k : ℕ) × (k ≤ n) × ((j : ℕ) → j ≤ n → LeftOn (q k) e (q j))
  lowest far q zero w = (0, omega arith, λ j l. let s : 0 ≡ j = omega arith in subst (λ (m : ℕ). LeftOn (q 0) e (q m)) s (twice13 (q 0) e))
  lowest far q (suc n) w = go (lowest far q n (λ j l. w j (omega arith)))
    where
      pick : (k : ℕ) → k ≤ n → ((j : ℕ) → j ≤ n → LeftOn (q k) e (q j)) → LeftOn (q k) e (q (suc n)) ⊎ LeftOn e (q k) (q (suc n))
          → (k : ℕ) × (k ≤ suc n) × ((j : ℕ) → j ≤ suc n → LeftOn (q k) e (q j))
      pick k l f (inl h) = (k, omega arith, λ j m. below_more (λ (j : ℕ). LeftOn (q k) e (q j)) (suc n) (λ j m. f j (omega arith)) h j (omega arith))
      pick k l f (inr h) = (
        suc n,
        omega arith,
        λ j m. below_more (λ (j : ℕ). LeftOn (q (suc n)) e (q j)) (suc n)
            (λ j m. lower_trans far (w (suc n) (omega arith)) (w k (omega arith)) (w j (omega arith)) (cycle_on (cycle_on h)) (f j (omega arith)))
            (twice13 (q (suc n)) e) j (omega arith),
      )

      go : (k : ℕ) × (k ≤ n) × ((j : ℕ) → j ≤ n → LeftOn (q k) e (q j)) → (k : ℕ) × (k ≤ suc n) × ((j : ℕ) → j ≤ suc n → LeftOn (q k) e (q j))
      go (k, l, f) = pick k l f (either_side (q k) e (q (suc n)))
