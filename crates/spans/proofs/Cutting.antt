-- Cutting a span of fractions by one condition p·t ≤ q, case by case: each case is a certificate over the cross products.
use mathlib.Core.List.{[], ◌∷◌}
use Prim.Native.Nat.{ℕ, ◌≤◌}
use lib.IntN.{ℤ, pos, ◌-ℤ◌, ◌*ℤ◌}
use lib.Signed.{◌≤ℤ◌, ◌<ℤ◌}
use Rattle.whole.proofs.Expressions.{Expr, Env, var, con, ◌⊖◌, ◌⊗◌, x0, x1}
use Rattle.whole.proofs.Naturals.{neg_plus, neg_minus}
use Rattle.whole.proofs.Order.{zarith, <→≤, sub_is}
use Rattle.whole.specs.Within.{Within}
use Rattle.whole.proofs.Certificates.{ge, ge_by, clash, po, nn, le, lt, ◌⊞◌, ◌⊠◌}
use Rattle.spans.specs.declared.Span.{Span}
use Rattle.spans.specs.Parts.{Time}
use Rattle.spans.specs.Spans.{InSpan, ProperSpan, SpanCut}

pub minus_within : {A : ℕ} {z : ℤ} → Within A z → Within A (pos 0 -ℤ z)
minus_within {A} {z} h = record {
  low = omega (zarith, sub_is (pos 0) z, h.high, h.low, neg_plus (pos A), neg_minus (pos A));
  high = omega (zarith, sub_is (pos 0) z, h.low, neg_plus (pos A), neg_minus (pos A));
}

pub one_within : {A : ℕ} → 1 ≤ A → Within A (pos 1)
one_within {A} h = record { low = omega (zarith, neg_plus (pos A), neg_minus (pos A)); high = omega zarith }

pub zero_within : {A : ℕ} → Within A (pos 0)
zero_within {A} = record { low = omega (zarith, neg_plus (pos A), neg_minus (pos A)); high = omega zarith }

-- a fraction of a proper span is from 0 to 1
pub in_time : {s : Span} {n d : ℤ} → ProperSpan s → pos 0 <ℤ d → InSpan s n d → Time n d
in_time {s} {n} {d} p h i =
    let ρ = s.first.num ∷ s.first.den ∷ s.last.num ∷ s.last.den ∷ n ∷ d ∷ [] in record {
      den = h;
      low = ge_by ρ (po (var 1) p.den0) (con (pos 0)) (var 4) (le (var 0 ⊗ var 5) (var 4 ⊗ var 1) i.from ⊞ nn (var 0) p.low ⊠ po (var 5) h) tt;
      high = ge_by ρ (po (var 3) p.den1) (var 4) (var 5) (le (var 4 ⊗ var 3) (var 2 ⊗ var 5) i.upto ⊞ le (var 2) (var 3) p.high ⊠ po (var 5) h) tt;
    }

-- the numbers of a cut: the span's four, p, q, and n, d
module _ (p q : ℤ) (s : Span) (g : ProperSpan s) where
  abbrev ρ : ℤ → ℤ → Env
  ρ n d = s.first.num ∷ s.first.den ∷ s.last.num ∷ s.last.den ∷ p ∷ q ∷ n ∷ d ∷ []

  abbrev n0 : Expr
  n0 = var 0

  abbrev d0 : Expr
  d0 = var 1

  abbrev n1 : Expr
  n1 = var 2

  abbrev d1 : Expr
  d1 = var 3

  abbrev P : Expr
  P = var 4

  abbrev Q : Expr
  Q = var 5

  abbrev N : Expr
  N = var 6

  abbrev D : Expr
  D = var 7

  -- the start is beyond the side, and it comes in later than the span does
  pub comes_later : q <ℤ pos 0 → p <ℤ pos 0 → (s.first.num *ℤ (pos 0 -ℤ p)) <ℤ ((pos 0 -ℤ q) *ℤ s.first.den)
      → SpanCut p q s (record { first = record { num = pos 0 -ℤ q; den = pos 0 -ℤ p }; last = s.last })
  comes_later hq hp l = record {
    proper = record {
      low = omega (zarith, sub_is (pos 0) q);
      high = g.high;
      den0 = omega (zarith, sub_is (pos 0) p);
      den1 = g.den1;
    };
    sized = λ A one wp wq z. record { n0 = minus_within wq; d0 = minus_within wp; n1 = z.n1; d1 = z.d1 };
    stays = λ n d h i k. record {
      from = ge (ρ n d) ((con (pos 0) ⊖ Q) ⊗ D) (N ⊗ (con (pos 0) ⊖ P)) (le (P ⊗ N) (Q ⊗ D) k) tt;
      upto = i.upto;
    };
    part = λ n d h i. record {
      from = ge_by (ρ n d) (lt P (con (pos 0)) hp) (n0 ⊗ D) (N ⊗ d0)
          (le ((con (pos 0) ⊖ Q) ⊗ D) (N ⊗ (con (pos 0) ⊖ P)) i.from ⊠ po d0 g.den0 ⊞ lt (n0 ⊗ (con (pos 0) ⊖ P)) ((con (pos 0) ⊖ Q) ⊗ d0) l ⊠ po D h) tt;
      upto = i.upto;
    };
    side = λ n d h i. ge (ρ n d) (P ⊗ N) (Q ⊗ D) (le ((con (pos 0) ⊖ Q) ⊗ D) (N ⊗ (con (pos 0) ⊖ P)) i.from) tt;
  }

  -- it comes in no later
  pub comes_sooner : p <ℤ pos 0 → ((pos 0 -ℤ q) *ℤ s.first.den) ≤ℤ (s.first.num *ℤ (pos 0 -ℤ p)) → SpanCut p q s s
  comes_sooner hp l = record {
    proper = g;
    sized = λ A one wp wq z. z;
    stays = λ n d h i k. i;
    part = λ n d h i. i;
    side = λ n d h i. ge_by (ρ n d) (po d0 g.den0) (P ⊗ N) (Q ⊗ D)
        (lt P (con (pos 0)) hp ⊠ le (n0 ⊗ D) (N ⊗ d0) i.from ⊞ le ((con (pos 0) ⊖ Q) ⊗ d0) (n0 ⊗ (con (pos 0) ⊖ P)) l ⊠ po D h) tt;
  }

  -- the start is beyond the side, and no later point is nearer: none is left
  pub never : q <ℤ pos 0 → pos 0 ≤ℤ p → SpanCut p q s (record { first = record { num = pos 1; den = pos 1 }; last = record { num = pos 0; den = pos 1 } })
  never hq hp = record {
    proper = record {
      low = omega zarith;
      high = omega zarith;
      den0 = omega zarith;
      den1 = omega zarith;
    };
    sized = λ A one wp wq z. record { n0 = one_within one; d0 = one_within one; n1 = zero_within; d1 = one_within one };
    stays = λ n d h i k. absurd
        (clash (ρ n d) (le (P ⊗ N) (Q ⊗ D) k ⊞ nn P hp ⊠ nn N (in_time g h i).low ⊞ lt Q (con (pos 0)) hq ⊠ po D h) tt);
    part = λ n d h i. absurd (none n d h i);
    side = λ n d h i. absurd (none n d h i);
  }
    where
      none : (n d : ℤ) → pos 0 <ℤ d → InSpan (record { first = record { num = pos 1; den = pos 1 }; last = record { num = pos 0; den = pos 1 } }) n d → ⊥
      none n d h i = clash (n ∷ d ∷ [])
          (le (con (pos 1) ⊗ x1) (x0 ⊗ con (pos 1)) i.from ⊞ le (x0 ⊗ con (pos 1)) (con (pos 0) ⊗ x1) i.upto ⊞ po x1 h) tt

  -- the end is beyond the side, and it leaves sooner than the span does
  pub leaves_sooner : pos 0 ≤ℤ q → q <ℤ p → (q *ℤ s.last.den) <ℤ (s.last.num *ℤ p) → SpanCut p q s (record { first = s.first; last = record { num = q; den = p } })
  leaves_sooner hq hp l = record {
    proper = record {
      low = g.low;
      high = <→≤ hp;
      den0 = g.den0;
      den1 = omega zarith;
    };
    sized = λ A one wp wq z. record { n0 = z.n0; d0 = z.d0; n1 = wq; d1 = wp };
    stays = λ n d h i k. record {
      from = i.from;
      upto = ge (ρ n d) (N ⊗ P) (Q ⊗ D) (le (P ⊗ N) (Q ⊗ D) k) tt;
    };
    part = λ n d h i. record {
      from = i.from;
      upto = ge_by (ρ n d) (nn Q hq ⊞ lt Q P hp) (N ⊗ d1) (n1 ⊗ D)
          (lt (Q ⊗ d1) (n1 ⊗ P) l ⊠ po D h ⊞ le (N ⊗ P) (Q ⊗ D) i.upto ⊠ po d1 g.den1) tt;
    };
    side = λ n d h i. ge (ρ n d) (P ⊗ N) (Q ⊗ D) (le (N ⊗ P) (Q ⊗ D) i.upto) tt;
  }

  -- it leaves no sooner
  pub leaves_later : pos 0 ≤ℤ p → (s.last.num *ℤ p) ≤ℤ (q *ℤ s.last.den) → SpanCut p q s s
  leaves_later hp l = record {
    proper = g;
    sized = λ A one wp wq z. z;
    stays = λ n d h i k. i;
    part = λ n d h i. i;
    side = λ n d h i. ge_by (ρ n d) (po d1 g.den1) (P ⊗ N) (Q ⊗ D)
        (nn P hp ⊠ le (N ⊗ d1) (n1 ⊗ D) i.upto ⊞ le (n1 ⊗ P) (Q ⊗ d1) l ⊠ po D h) tt;
  }

  -- both ends are on the right side
  pub untouched : pos 0 ≤ℤ q → p ≤ℤ q → SpanCut p q s s
  untouched hq hp = record {
    proper = g;
    sized = λ A one wp wq z. z;
    stays = λ n d h i k. i;
    part = λ n d h i. i;
    side = λ n d h i.
        let t = in_time g h i in
        ge (ρ n d) (P ⊗ N) (Q ⊗ D) (nn Q hq ⊠ le N D t.high ⊞ le P Q hp ⊠ nn N t.low) tt;
  }
