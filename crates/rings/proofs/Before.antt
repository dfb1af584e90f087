-- Lower, then further left, is a strict order of the points of the plane.
use mathlib.Core.Path.{◌≡◌, sym}
use mathlib.Core.List.{[], ◌∷◌}
use mathlib.Core.Logic.{◌⊎◌, inl, inr}
use lib.IntN.{ℤ, pos, ◌*ℤ◌}
use lib.Signed.{◌≤ℤ◌, ◌<ℤ◌}
use Rattle.whole.proofs.Expressions.{var, ◌⊗◌, neg, Env}
use Rattle.whole.proofs.Order.{zarith, ≤_antisym, ≤_total}
use Rattle.whole.proofs.Certificates.{gt_by, lt, po, eq, ◌⊞◌, ◌⊠◌}
use Rattle.rings.specs.Points.{Point, Proper, Same, Before, lower, level}
use Rattle.rings.proofs.Same.{equal_equal}

pub before_asym : {p q : Point} → Before p q → Before q p → ⊥
before_asym (lower a) (lower b) = omega zarith
before_asym (lower a) (level b c) = omega zarith
before_asym (level a b) (lower c) = omega zarith
before_asym (level a b) (level c d) = omega zarith

-- a/u, b/v and c/w by cross products
module _ (u v w a b c : ℤ) (hv : pos 0 <ℤ v) where
  abbrev ρ : Env
  ρ = u ∷ v ∷ w ∷ a ∷ b ∷ c ∷ []

  less_less : pos 0 <ℤ u → pos 0 <ℤ w → (a *ℤ v) <ℤ (b *ℤ u) → (b *ℤ w) <ℤ (c *ℤ v) → (a *ℤ w) <ℤ (c *ℤ u)
  less_less hu hw h k =
      gt_by ρ (po (var 1) hv) (var 3 ⊗ var 2) (var 5 ⊗ var 0)
      (po (var 0) hu ⊠ lt (var 4 ⊗ var 2) (var 5 ⊗ var 1) k ⊞ po (var 2) hw ⊠ lt (var 3 ⊗ var 1) (var 4 ⊗ var 0) h) tt

  less_equal : pos 0 <ℤ w → (a *ℤ v) <ℤ (b *ℤ u) → b *ℤ w ≡ c *ℤ v → (a *ℤ w) <ℤ (c *ℤ u)
  less_equal hw h k =
      gt_by ρ (po (var 1) hv) (var 3 ⊗ var 2) (var 5 ⊗ var 0)
      (eq (neg (var 0)) (var 4 ⊗ var 2) (var 5 ⊗ var 1) k ⊞ po (var 2) hw ⊠ lt (var 3 ⊗ var 1) (var 4 ⊗ var 0) h) tt

  equal_less : pos 0 <ℤ u → a *ℤ v ≡ b *ℤ u → (b *ℤ w) <ℤ (c *ℤ v) → (a *ℤ w) <ℤ (c *ℤ u)
  equal_less hu h k =
      gt_by ρ (po (var 1) hv) (var 3 ⊗ var 2) (var 5 ⊗ var 0)
      (po (var 0) hu ⊠ lt (var 4 ⊗ var 2) (var 5 ⊗ var 1) k ⊞ eq (neg (var 2)) (var 3 ⊗ var 1) (var 4 ⊗ var 0) h) tt

module _ {p q r : Point} where
  pub before_trans : Proper p → Proper q → Proper r → Before p q → Before q r → Before p r
  before_trans hp hq hr (lower a) (lower b) = lower (less_less p.W q.W r.W p.Y q.Y r.Y hq hp hr a b)
  before_trans hp hq hr (lower a) (level b c) = lower (less_equal p.W q.W r.W p.Y q.Y r.Y hq hr a b)
  before_trans hp hq hr (level a b) (lower c) = lower (equal_less p.W q.W r.W p.Y q.Y r.Y hq hp a c)
  before_trans hp hq hr (level a b) (level c d) =
      level (equal_equal p.W q.W r.W p.Y q.Y r.Y hq a c) (less_less p.W q.W r.W p.X q.X r.X hq hp hr b d)

  pub before_same : Same q r → Before p q → Before p r
  before_same s (lower a) = lower (less_equal p.W q.W r.W p.Y q.Y r.Y s.first s.second a s.y)
  before_same s (level a b) =
      level (equal_equal p.W q.W r.W p.Y q.Y r.Y s.first a s.y)
      (less_equal p.W q.W r.W p.X q.X r.X s.first s.second b s.x)

compare : (a b : ℤ) → (a <ℤ b) ⊎ ((a ≡ b) ⊎ (b <ℤ a))
compare a b = go (≤_total a b) (≤_total b a)
  where
    go : (a ≤ℤ b) ⊎ (b <ℤ a) → (b ≤ℤ a) ⊎ (a <ℤ b) → (a <ℤ b) ⊎ ((a ≡ b) ⊎ (b <ℤ a))
    go (inr k) t = inr (inr k)
    go (inl h) (inr k) = inl k
    go (inl h) (inl k) = inr (inl (≤_antisym h k))

pub before_cases : (p q : Point) → Proper p → Proper q → Before p q ⊎ (Same p q ⊎ Before q p)
before_cases p q hp hq = go (compare (p.Y *ℤ q.W) (q.Y *ℤ p.W))
  where
    across : p.Y *ℤ q.W ≡ q.Y *ℤ p.W → ((p.X *ℤ q.W) <ℤ (q.X *ℤ p.W)) ⊎ ((p.X *ℤ q.W ≡ q.X *ℤ p.W) ⊎ ((q.X *ℤ p.W) <ℤ (p.X *ℤ q.W)))
        → Before p q ⊎ (Same p q ⊎ Before q p)
    across e (inl a) = inl (level e a)
    across e (inr (inl a)) = inr (inl (record { first = hp; second = hq; x = a; y = e }))
    across e (inr (inr a)) = inr (inr (level (sym e) a))

    go : ((p.Y *ℤ q.W) <ℤ (q.Y *ℤ p.W)) ⊎ ((p.Y *ℤ q.W ≡ q.Y *ℤ p.W) ⊎ ((q.Y *ℤ p.W) <ℤ (p.Y *ℤ q.W))) → Before p q ⊎ (Same p q ⊎ Before q p)
    go (inl a) = inl (lower a)
    go (inr (inl e)) = across e (compare (p.X *ℤ q.W) (q.X *ℤ p.W))
    go (inr (inr a)) = inr (inr (lower a))
