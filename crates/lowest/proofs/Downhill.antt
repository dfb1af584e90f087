-- Down from the first corner of a ring: what comes before the corner reached comes before the first, so neither walk comes round to the first again.
-- Where it ends neither neighbour comes before, so no corner does.
use mathlib.Core.Path.{◌≡◌, refl, sym, subst, transport}
use mathlib.Core.Bool.{Bool}
use mathlib.Core.List.{List}
use Prim.Native.Nat.{ℕ, zero, suc, ◌+◌, ◌<◌}
use native.Mathlib.Decide.{dec_lt}
use native.Mathlib.Omega.{arith}
use lib.ListN.{length}
use Rattle.whole.specs.Choice.{Decides}
use Rattle.rings.specs.Points.{Point, Proper, Before}
use Rattle.rings.specs.Rings.{at, Edge, along, closing, Ring}
use Rattle.rings.proofs.Linear.{place_all}
use Rattle.rings.proofs.Before.{before_asym, before_trans}
use Rattle.rings.proofs.Theorems.{valley}
use Rattle.lowest.specs.Lowest.{LowestIn, Forward, stays, moves}

-- the same of the same points
pub decides_same : {b : Bool} {p q u v : Point} → p ≡ u → q ≡ v → Decides b (Before u v) → Decides b (Before p q)
decides_same {b} e f = transport (λ t. Decides b (Before (sym e t) (sym f t)))

pub moved : {r : List Point} {k : ℕ} → (k ≡ 0 → ⊥) → Forward r k → LowestIn r k
moved n (stays f) = absurd (n refl)
moved n (moves l s) = s

-- ---- how far a walk has come
abbrev Below : List Point → ℕ → Type 0
Below r i = (k : ℕ) → k < length r → Before (at r k) (at r i) → Before (at r k) (at r 0)

-- forward, to i
pub record Fell (r : List Point) (i : ℕ) : Type 0 where
  pub inside : i < length r
  pub below : Below r i
  pub fell : (h : ℕ) → suc h ≡ i → Before (at r h) (at r i) → ⊥

-- back, from next to i; before that stands j
pub record FellBack (r : List Point) (i j : ℕ) : Type 0 where
  pub next : ℕ
  pub leads : Edge (length r) i next
  pub comes : Edge (length r) j i
  pub below : Below r i
  pub fell : Before (at r next) (at r i) → ⊥

pub ends_inside : {n i k : ℕ} → Edge n i k → (i < n) × (k < n)
ends_inside (along h) = (omega arith, h)
ends_inside (closing e) = (omega arith, omega arith)

ahead : {n i : ℕ} → i + 1 < n → Edge n i (i + 1)
ahead {n} {i} l = let e : suc i ≡ i + 1 = omega arith in subst (Edge n i) e (along (omega arith))

module _ {r : List Point} (g : Ring r) where
  -- one step down
  below_more : {i j : ℕ} → i < length r → j < length r → Before (at r j) (at r i) → Below r i → Below r j
  below_more {i} {j} hi hj b s k hk c = s k hk (before_trans (proper k hk) (proper j hj) (proper i hi) c b)
    where
      proper : (k : ℕ) → k < length r → Proper (at r k)
      proper = place_all g.proper

  -- ---- forward
  pub falls_first : Fell r 0
  falls_first = record { inside = let l = g.three in omega arith; below = λ k h b. b; fell = λ h e. absurd (omega arith) }

  pub falls_on : {i j : ℕ} → suc i ≡ j → Fell r i → j < length r → Before (at r j) (at r i) → Fell r j
  falls_on {i} {j} e s l b = record {
    inside = l;
    below = below_more s.inside l b s.below;
    fell = λ h p c. let m : h ≡ i = omega arith in before_asym b (subst (λ (k : ℕ). Before (at r k) (at r j)) m c);
  }

  stops : {i : ℕ} → Fell r i → (suc i < length r → Before (at r (suc i)) (at r i) → ⊥) → Forward r i
  stops {i = zero} s f = stays (f (let l = g.three in omega arith))
  stops {i = suc h} s f = moves {k = suc h} (omega arith) (record { inside = s.inside; least = go (dec_lt (suc (suc h)) (length r)) })
    where
      go : Dec (suc (suc h) < length r) → (j : ℕ) → j < length r → Before (at r j) (at r (suc h)) → ⊥
      go (yes l) = valley g (along s.inside) (along l) (s.fell h refl) (f l)
      go (no l) = valley g (along s.inside) (closing (let m = s.inside in omega arith)) (s.fell h refl) (λ b. let c = s.below 0 (omega arith) b in before_asym c c)

  pub falls_no_more : {i j : ℕ} → suc i ≡ j → Fell r i → (j < length r → Before (at r j) (at r i) → ⊥) → Forward r i
  falls_no_more {i} e s f = stops s (subst (λ (j : ℕ). j < length r → Before (at r j) (at r i) → ⊥) (sym e) f)

  -- ---- back
  pub back_first : {j : ℕ} → suc j ≡ length r → Forward r 0 → FellBack r 0 j
  back_first {j} e (stays f) = record { next = 1; leads = ahead (let l = g.three in omega arith); comes = closing e; below = λ k h b. b; fell = f }
  back_first e (moves l s) = absurd (omega arith)

  module _ {i j : ℕ} (s : FellBack r i j) where
    pub back_on : {h : ℕ} → suc h ≡ j → Before (at r j) (at r i) → FellBack r j h
    back_on {h} e b =
        let l = ends_inside s.comes in
        record {
          next = i;
          leads = s.comes;
          comes = subst (Edge (length r) h) e (along (omega arith));
          below = below_more l.1 l.0 b s.below;
          fell = before_asym b;
        }

    pub back_no_more : (Before (at r j) (at r i) → ⊥) → LowestIn r i
    back_no_more f = record { inside = (ends_inside s.leads).0; least = valley g s.comes s.leads f s.fell }

  -- at the last corner before the first: that one does not come before
  pub back_round : {i : ℕ} → FellBack r i 0 → LowestIn r i
  back_round s = back_no_more s (λ b. let c = s.below 0 (let l = g.three in omega arith) b in before_asym c c)
