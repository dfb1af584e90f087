-- A stroke that crosses the line of a condition k inward at f: it meets all conditions there exactly where the line enters the window over k, and then
-- another that it enters over is crossed there too. And the same outward.
use mathlib.Core.Path.{◌≡◌}
use mathlib.Core.List.{List, [], ◌∷◌}
use lib.IntN.{pos, ◌*ℤ◌}
use lib.Signed.{◌≤ℤ◌, ◌<ℤ◌}
use Rattle.whole.proofs.Certificates.{ge_by, eq, po, le, lt, ◌⊞◌, ◌⊠◌}
use Rattle.whole.proofs.Expressions.{Expr, Env, var, con, ◌⊗◌, neg}
use Rattle.whole.proofs.Order.{≤_antisym}
use Rattle.fraction.specs.declared.Fraction.{Fraction}
use Rattle.rings.specs.Lists.{All}
use Rattle.rings.proofs.Lists.{all_map}
use Rattle.spans.specs.Sides.{Condition, Inward, Outward, Fixes}
use Rattle.crossed_sides.proofs.Corners.{Enters, Leaves}

-- k's p and q, those of another condition, and the fraction
abbrev KP : Expr
KP = var 0

abbrev KQ : Expr
KQ = var 1

abbrev CP : Expr
CP = var 2

abbrev CQ : Expr
CQ = var 3

abbrev N : Expr
N = var 4

abbrev D : Expr
D = var 5

abbrev naught : Expr
naught = con (pos 0)

module _ (k : Condition) (f : Fraction) (den : pos 0 <ℤ f.den) (on : k.p *ℤ f.num ≡ k.q *ℤ f.den) where
  abbrev ρ : Condition → Env
  ρ c = k.p ∷ k.q ∷ c.p ∷ c.q ∷ f.num ∷ f.den ∷ []

  -- ---- inward
  module _ {cs : List Condition} (e : Enters cs k) where
    pub in_meets : All (λ (c : Condition). (c.p *ℤ f.num) ≤ℤ (c.q *ℤ f.den)) cs
    in_meets = all_map
        (λ c h. ge_by (ρ c) (lt KP naught e.inward) (CP ⊗ N) (CQ ⊗ D) (po D den ⊠ le (CQ ⊗ KP) (KQ ⊗ CP) h ⊞ eq CP (KP ⊗ N) (KQ ⊗ D) on) tt) e.inside

    pub in_fixes : {c : Condition} → Inward c.p → (c.p *ℤ f.num) ≤ℤ (c.q *ℤ f.den) → (k.q *ℤ c.p) ≤ℤ (c.q *ℤ k.p) → Fixes Inward f c
    in_fixes {c} i m h = record {
      crosses = i;
      on = ≤_antisym m
          (ge_by (ρ c) (lt KP naught e.inward) (CQ ⊗ D) (CP ⊗ N) (po D den ⊠ le (KQ ⊗ CP) (CQ ⊗ KP) h ⊞ eq (neg CP) (KP ⊗ N) (KQ ⊗ D) on) tt);
    }

  -- ---- outward
  module _ {cs : List Condition} (e : Leaves cs k) where
    pub out_meets : All (λ (c : Condition). (c.p *ℤ f.num) ≤ℤ (c.q *ℤ f.den)) cs
    out_meets = all_map
        (λ c h. ge_by (ρ c) (po KP e.outward) (CP ⊗ N) (CQ ⊗ D) (po D den ⊠ le (KQ ⊗ CP) (CQ ⊗ KP) h ⊞ eq (neg CP) (KP ⊗ N) (KQ ⊗ D) on) tt) e.inside

    pub out_fixes : {c : Condition} → Outward c.p → (c.p *ℤ f.num) ≤ℤ (c.q *ℤ f.den) → (c.q *ℤ k.p) ≤ℤ (k.q *ℤ c.p) → Fixes Outward f c
    out_fixes {c} o m h = record {
      crosses = o;
      on = ≤_antisym m
          (ge_by (ρ c) (po KP e.outward) (CQ ⊗ D) (CP ⊗ N) (po D den ⊠ le (CQ ⊗ KP) (KQ ⊗ CP) h ⊞ eq CP (KP ⊗ N) (KQ ⊗ D) on) tt);
    }

-- ---- and where a fraction meets all conditions, the line of a side that fixes it is crossed at a point in the window
module _ {cs : List Condition} (f : Fraction) (den : pos 0 <ℤ f.den) (m : All (λ (c : Condition). (c.p *ℤ f.num) ≤ℤ (c.q *ℤ f.den)) cs) (k : Condition) where
  pub fixed_enters : Fixes Inward f k → Enters cs k
  fixed_enters x = record {
    inward = x.crosses;
    inside = all_map
        (λ c h.
        ge_by (k.p ∷ k.q ∷ c.p ∷ c.q ∷ f.num ∷ f.den ∷ []) (po D den) (CQ ⊗ KP) (KQ ⊗ CP)
        (lt KP naught x.crosses ⊠ le (CP ⊗ N) (CQ ⊗ D) h ⊞ eq (neg CP) (KP ⊗ N) (KQ ⊗ D) x.on) tt)
        m;
  }

  pub fixed_leaves : Fixes Outward f k → Leaves cs k
  fixed_leaves x = record {
    outward = x.crosses;
    inside = all_map
        (λ c h.
        ge_by (k.p ∷ k.q ∷ c.p ∷ c.q ∷ f.num ∷ f.den ∷ []) (po D den) (KQ ⊗ CP) (CQ ⊗ KP)
        (po KP x.crosses ⊠ le (CP ⊗ N) (CQ ⊗ D) h ⊞ eq CP (KP ⊗ N) (KQ ⊗ D) x.on) tt)
        m;
  }
