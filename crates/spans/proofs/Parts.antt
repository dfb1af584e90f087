-- A span that holds exactly the kept fractions gives the kept part: its ends in lowest terms are the first and the last. And two parts are equal.
use mathlib.Core.Path.{◌≡◌, refl, sym, ◌∙◌}
use mathlib.Core.Bool.{Bool, true, false}
use mathlib.Core.List.{List, [], ◌∷◌}
use mathlib.Core.Logic.{◌↔◌}
use Prim.Native.Nat.{ℕ, ◌≤◌}
use lib.IntN.{ℤ, pos, negsuc, ◌*ℤ◌}
use lib.Signed.{◌≤ℤ◌, ◌<ℤ◌}
use Rattle.whole.specs.Within.{Within}
use Rattle.whole.proofs.Ranges.{Bounds, within}
use Rattle.whole.proofs.Expressions.{Env, var, con, ◌⊗◌, neg, x0, x1, x2, x3}
use Rattle.whole.proofs.Naturals.{neg_plus, neg_minus}
use Rattle.whole.proofs.Order.{zarith, ≤_antisym}
use Rattle.whole.proofs.Certificates.{ge, ge_by, clash, eq, eqn, eq_by, po, nn, le, lt, ◌⊞◌, ◌⊠◌}
use Rattle.whole.proofs.Comparisons.{ff_tt, tt_ff}
use Rattle.fraction.specs.declared.Fraction.{Fraction}
use Rattle.fraction.specs.Fraction.{LowestOf, Comparable}
use Rattle.fraction.proofs.LowestTerms.{lowest_unique, lowest_over_one}
use Rattle.spans.specs.declared.Span.{Span}
use Rattle.spans.specs.Parts.{Time, First, Last, Part, zeroth, unit}
use Rattle.spans.specs.Spans.{largest, InSpan, ProperSpan, Sized, SpanOf}
use Rattle.spans.proofs.Cutting.{one_within, zero_within}

-- ---- fractions of such sizes can be compared
pub comparable : {f g : Fraction} → Within largest f.num → Within largest f.den → Within largest g.num → Within largest g.den → Comparable f g
comparable {f} {g} fn fd gn gd =
    let β : List ℕ = largest ∷ largest ∷ largest ∷ largest ∷ [] in
    let h : Bounds β (f.num ∷ f.den ∷ g.num ∷ g.den ∷ []) = (fn, (fd, (gn, (gd, tt)))) in
    record { one = within β (f.num ∷ f.den ∷ g.num ∷ g.den ∷ []) h (x0 ⊗ x3) tt; other = within β (f.num ∷ f.den ∷ g.num ∷ g.den ∷ []) h (x2 ⊗ x1) tt }

-- a numerator is no larger than its denominator
pub time_within : {A : ℕ} {n d : ℤ} → Time n d → Within A d → Within A n
time_within {A} {n} {d} t h = record { low = omega (zarith, t.low, neg_plus (pos A), neg_minus (pos A)); high = omega (zarith, t.high, h.high) }

-- ---- two parts of one stroke are equal
module _ {K : ℤ → ℤ → Type 0} where
  pub first_unique : {f g : Fraction} → First K f → First K g → f ≡ g
  first_unique {f} {g} p q = lowest_unique f g p.lowest q.lowest (≤_antisym (p.least g.num g.den q.keeps) (q.least f.num f.den p.keeps))

  pub last_unique : {f g : Fraction} → Last K f → Last K g → f ≡ g
  last_unique {f} {g} p q = lowest_unique f g p.lowest q.lowest (≤_antisym (q.greatest f.num f.den p.keeps) (p.greatest g.num g.den q.keeps))

  pub part_unique : {j k : Bool} {f g h i : Fraction} → Part K j f g → Part K k h i → (j ≡ k) × (f ≡ h) × (g ≡ i)
  part_unique {j} {k} {f} {g} {h} {i} p q = go j k refl refl
    where
      go : (x y : Bool) → j ≡ x → k ≡ y → (j ≡ k) × (f ≡ h) × (g ≡ i)
      go true true e l = (e ∙ sym l, first_unique (p.first e) (q.first l), last_unique (p.last e) (q.last l))
      go true false e l = absurd (ff_tt (sym l ∙ q.keeps f.num f.den (p.first e).keeps))
      go false true e l = absurd (ff_tt (sym e ∙ p.keeps h.num h.den (q.first l).keeps))
      go false false e l = (e ∙ sym l, (p.missed e).0 ∙ sym (q.missed l).0, (p.missed e).1 ∙ sym (q.missed l).1)

  -- ---- nothing kept
  pub part_missed : ((n d : ℤ) → K n d → ⊥) → Part K false zeroth zeroth
  part_missed never = record { keeps = λ n d k. absurd (never n d k); first = λ e. absurd (ff_tt e); last = λ e. absurd (ff_tt e); missed = λ e. (refl, refl) }

-- ---- what is kept by equivalent conditions is the same part
pub part_same : {K L : ℤ → ℤ → Type 0} {k : Bool} {f g : Fraction} → ((n d : ℤ) → K n d ↔ L n d) → Part K k f g → Part L k f g
part_same {f} {g} e p = record {
  keeps = λ n d h. p.keeps n d ((e n d).1 h);
  first = λ t. let q = p.first t in record { lowest = q.lowest; keeps = (e f.num f.den).0 q.keeps; least = λ n d h. q.least n d ((e n d).1 h) };
  last = λ t. let q = p.last t in record { lowest = q.lowest; keeps = (e g.num g.den).0 q.keeps; greatest = λ n d h. q.greatest n d ((e n d).1 h) };
  missed = p.missed;
}

-- ---- all kept
pub lowest_zeroth : {n d : ℤ} → n ≡ pos 0 → LowestOf n d zeroth
lowest_zeroth {n} {d} e = record {
  lowest = lowest_over_one (pos 0);
  same = eq_by (n ∷ d ∷ []) (con (pos 0) ⊗ x1) (x0 ⊗ con (pos 1)) (eqn (con (negsuc 0)) x0 (con (pos 0)) e) tt;
}

pub lowest_unit : {n d : ℤ} → n ≡ d → LowestOf n d unit
lowest_unit {n} {d} e = record { lowest = lowest_over_one (pos 1); same = eq_by (n ∷ d ∷ []) (con (pos 1) ⊗ x1) (x0 ⊗ con (pos 1)) (eqn (con (negsuc 0)) x0 x1 e) tt }

abbrev pub all : Span
all = record { first = record { num = pos 0; den = pos 1 }; last = record { num = pos 1; den = pos 1 } }

pub all_proper : ProperSpan all
all_proper = record {
  low = omega zarith;
  high = omega zarith;
  den0 = omega zarith;
  den1 = omega zarith;
}

pub all_sized : (A : ℕ) → 1 ≤ A → Sized A all
all_sized A h = record { n0 = zero_within; d0 = one_within h; n1 = one_within h; d1 = one_within h }

pub in_all : {n d : ℤ} → Time n d → InSpan all n d
in_all {n} {d} t = record {
  from = ge (n ∷ d ∷ []) (con (pos 0) ⊗ x1) (x0 ⊗ con (pos 1)) (nn x0 t.low) tt;
  upto = ge (n ∷ d ∷ []) (x0 ⊗ con (pos 1)) (con (pos 1) ⊗ x1) (le x0 x1 t.high) tt;
}

-- ---- the ends of a span
module _ {A : ℕ} {K : ℤ → ℤ → Type 0} {s : Span} (g : SpanOf A K s) where
  abbrev ρ : ℤ → ℤ → Env
  ρ n d = s.first.num ∷ s.first.den ∷ s.last.num ∷ s.last.den ∷ n ∷ d ∷ []

  pub none_left : ((n d : ℤ) → K n d → pos 0 <ℤ d) → (s.last.num *ℤ s.first.den) <ℤ (s.first.num *ℤ s.last.den) → (n d : ℤ) → K n d → ⊥
  none_left pos-den l n d k =
      let i = g.stays n d k in
      clash (ρ n d)
      (le (x0 ⊗ var 5) (var 4 ⊗ x1) i.from ⊠ po x3 g.proper.den1 ⊞ le (var 4 ⊗ x3) (x2 ⊗ var 5) i.upto ⊠ po x1 g.proper.den0 ⊞ lt (x2 ⊗ x1) (x0 ⊗ x3) l
      ⊠ po (var 5) (pos-den n d k)) tt

  module _ (l : (s.first.num *ℤ s.last.den) ≤ℤ (s.last.num *ℤ s.first.den)) where
    pub in_first : InSpan s s.first.num s.first.den
    in_first = record { from = omega zarith; upto = l }

    pub in_last : InSpan s s.last.num s.last.den
    in_last = record { from = l; upto = omega zarith }

    pub span_first : {e : Fraction} → LowestOf s.first.num s.first.den e → First K e
    span_first {e} q =
        let r = ρ e.num e.den in
        let p = q.lowest.positive in record {
          lowest = q.lowest;
          keeps = g.keeps e.num e.den p (record {
            from = ge r (x0 ⊗ var 5) (var 4 ⊗ x1) (eq (con (pos 1)) (var 4 ⊗ x1) (x0 ⊗ var 5) q.same) tt;
            upto = ge_by r (po x1 g.proper.den0) (var 4 ⊗ x3) (x2 ⊗ var 5)
                (le (x0 ⊗ x3) (x2 ⊗ x1) l ⊠ po (var 5) p ⊞ eq (neg x3) (var 4 ⊗ x1) (x0 ⊗ var 5) q.same) tt;
          });
          least = λ n d k. ge_by (s.first.num ∷ s.first.den ∷ n ∷ d ∷ e.num ∷ e.den ∷ []) (po x1 g.proper.den0) (var 4 ⊗ x3) (x2 ⊗ var 5)
              (le (x0 ⊗ x3) (x2 ⊗ x1) (g.stays n d k).from ⊠ po (var 5) p ⊞ eq (neg x3) (var 4 ⊗ x1) (x0 ⊗ var 5) q.same) tt;
        }

    pub span_last : {e : Fraction} → LowestOf s.last.num s.last.den e → Last K e
    span_last {e} q =
        let r = ρ e.num e.den in
        let p = q.lowest.positive in record {
          lowest = q.lowest;
          keeps = g.keeps e.num e.den p (record {
            from = ge_by r (po x3 g.proper.den1) (x0 ⊗ var 5) (var 4 ⊗ x1) (le (x0 ⊗ x3) (x2 ⊗ x1) l ⊠ po (var 5) p ⊞ eq x1 (var 4 ⊗ x3) (x2 ⊗ var 5) q.same) tt;
            upto = ge r (var 4 ⊗ x3) (x2 ⊗ var 5) (eq (con (negsuc 0)) (var 4 ⊗ x3) (x2 ⊗ var 5) q.same) tt;
          });
          greatest = λ n d k. ge_by (s.last.num ∷ s.last.den ∷ n ∷ d ∷ e.num ∷ e.den ∷ []) (po x1 g.proper.den1) (x2 ⊗ var 5) (var 4 ⊗ x3)
              (le (x2 ⊗ x1) (x0 ⊗ x3) (g.stays n d k).upto ⊠ po (var 5) p ⊞ eq x3 (var 4 ⊗ x1) (x0 ⊗ var 5) q.same) tt;
        }

    pub span_part : {e f : Fraction} → LowestOf s.first.num s.first.den e → LowestOf s.last.num s.last.den f → Part K true e f
    span_part p q = record { keeps = λ n d k. refl; first = λ _. span_first p; last = λ _. span_last q; missed = λ e. absurd (tt_ff e) }
