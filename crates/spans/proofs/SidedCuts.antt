-- Cutting a span with its sides. A side that puts the start later is the first to fix it, since those before it were met at the old start; for the end the
-- other way round. So after each cut the sides are those of all the conditions so far.
use mathlib.Core.List.{List, [], ◌∷◌, ◌++◌}
use Prim.Native.Nat.{ℕ, ◌≤◌}
use lib.IntN.{ℤ, pos, ◌-ℤ◌, ◌*ℤ◌}
use lib.ListN.{length}
use lib.Signed.{◌≤ℤ◌, ◌<ℤ◌}
use Rattle.whole.specs.Within.{Within}
use Rattle.whole.proofs.Certificates.{clash, eq, ge_by, po, nn, le, lt, ◌⊞◌, ◌⊠◌}
use Rattle.whole.proofs.Expressions.{var, con, ◌⊖◌, ◌⊗◌, neg, x0, x1, x2, x3}
use Rattle.whole.proofs.Order.{zarith}
use Rattle.whole.proofs.Polynomials.{ring}
use Rattle.fraction.specs.declared.Fraction.{Fraction}
use Rattle.rings.specs.Lists.{All, ∅, ◌◂◌}
use Rattle.rings.proofs.Lists.{all_append, all_left, all_right, all_head, all_map}
use Rattle.spans.specs.Sides.{Condition, StartSide, EndSide}
use Rattle.spans.specs.Spans.{ProperSpan, SpanCut, whole_span, SomeLeft, StartCut, EndCut, SidedCut, KeptBy}
use Rattle.spans.specs.Spans.{same_start, later_start, same_end, sooner_end}
use Rattle.spans.specs.declared.SidedSpan.{SidedSpan}
use Rattle.spans.proofs.Cutting.{in_time, comes_later, never, leaves_sooner}
use Rattle.spans.proofs.Parts.{all_proper, all_sized, in_all, in_first, in_last}
use Rattle.spans.proofs.Sides.{first_before, first_behind, not_inward, not_outward, own_start, own_end}

-- ---- one more condition
pub kept_by_none : {A : ℕ} → 1 ≤ A → KeptBy A [] whole_span
kept_by_none {A} h = record {
  span = record {
    proper = all_proper;
    sized = all_sized A h;
    stays = λ n d m. in_all m.time;
    keeps = λ n d h i. record { time = in_time all_proper h i; each = ∅ };
  };
  start = λ _. own_start;
  end = λ _. own_end;
}

abbrev Met : List Condition → Fraction → Type 0
Met cs f = All (λ (c : Condition). (c.p *ℤ f.num) ≤ℤ (c.q *ℤ f.den)) cs

module _ {cs : List Condition} {p q : ℤ} where
  start_more : {f e : Fraction} {i j : ℕ} → pos 0 ≤ℤ f.num → pos 0 <ℤ f.den → pos 0 <ℤ e.den → Met cs f
      → StartCut p q (length cs) f i e j → StartSide cs f i → StartSide (cs ++ record { p = p; q = q } ∷ []) e j
  start_more low hf he met same_start n = record { remains = n.remains; fixed = λ o. first_before _ (n.fixed o) }
  start_more {f} {e} low hf he met (later_start l x) n = record {
    remains = λ o. absurd
        (clash (f.num ∷ f.den ∷ e.num ∷ e.den ∷ []) (lt (x0 ⊗ x3) (x2 ⊗ x1) l ⊞ nn x0 low ⊠ po x3 he ⊞ eq (neg x1) x2 (con (pos 0)) o) tt);
    fixed = λ o. first_behind (all_map (λ (c : Condition) m. not_inward f e hf he m l) met) x;
  }

  end_more : {f e : Fraction} {i j : ℕ} → f.num ≤ℤ f.den → pos 0 <ℤ f.den → pos 0 <ℤ e.den → Met cs f
      → EndCut p q (length cs) f i e j → EndSide cs f i → EndSide (cs ++ record { p = p; q = q } ∷ []) e j
  end_more high hf he met same_end n = record { remains = n.remains; fixed = λ o. first_before _ (n.fixed o) }
  end_more {f} {e} high hf he met (sooner_end l x) n = record {
    remains = λ o. absurd
        (clash (f.num ∷ f.den ∷ e.num ∷ e.den ∷ []) (lt (x2 ⊗ x1) (x0 ⊗ x3) l ⊞ le x0 x1 high ⊠ po x3 he ⊞ eq x1 x2 x3 o) tt);
    fixed = λ o. first_behind (all_map (λ (c : Condition) m. not_outward f e hf he m l) met) x;
  }

module _ {A : ℕ} {cs : List Condition} {s r : SidedSpan} {p q : ℤ} (g : KeptBy A cs s) (c : SidedCut p q (length cs) s r) where
  abbrev before : ProperSpan s.span
  before = g.span.proper

  abbrev after : ProperSpan r.span
  after = c.span.proper

  -- where some is left of r, some was left of s
  some_before : SomeLeft r.span → SomeLeft s.span
  some_before h =
      let i = c.span.part r.span.first.num r.span.first.den after.den0 (record { from = omega zarith; upto = h }) in
      ge_by (s.span.first.num ∷ s.span.first.den ∷ s.span.last.num ∷ s.span.last.den ∷ r.span.first.num ∷ r.span.first.den ∷ [])
      (po (var 5) after.den0) (x0 ⊗ x3) (x2 ⊗ x1)
      (le (x0 ⊗ var 5) (var 4 ⊗ x1) i.from ⊠ po x3 before.den1 ⊞ le (var 4 ⊗ x3) (x2 ⊗ var 5) i.upto ⊠ po x1 before.den0) tt

  pub kept_by_more : 1 ≤ A → Within A p → Within A q → KeptBy A (cs ++ record { p = p; q = q } ∷ []) r
  kept_by_more one wp wq = record {
    span = record {
      proper = after;
      sized = c.span.sized A one wp wq g.span.sized;
      stays = λ n d m.
          c.span.stays n d m.time.den (g.span.stays n d (record { time = m.time; each = all_left cs _ m.each }))
          (all_head (all_right cs m.each));
      keeps = λ n d h i.
          let m = g.span.keeps n d h (c.span.part n d h i) in
          record { time = m.time; each = all_append m.each (c.span.side n d h i ◂ ∅) };
    };
    start = λ h. let l = some_before h in start_more before.low before.den0 after.den0 (first_met l) (c.start h) (g.start l);
    end = λ h. let l = some_before h in end_more before.high before.den1 after.den1 (last_met l) (c.end h) (g.end l);
  }
    where
      first_met : SomeLeft s.span → Met cs s.span.first
      first_met l = (g.span.keeps _ _ before.den0 (in_first g.span l)).each

      last_met : SomeLeft s.span → Met cs s.span.last
      last_met l = (g.span.keeps _ _ before.den1 (in_last g.span l)).each

-- ---- what the cases of a cut leave, with the sides
module _ {p q : ℤ} {k : ℕ} {s : SidedSpan} where
  pub sided_as_before : SpanCut p q s.span s.span → SidedCut p q k s s
  sided_as_before c = record { span = c; start = λ _. same_start; end = λ _. same_end }

  module _ (g : ProperSpan s.span) where
    pub sided_in : q <ℤ pos 0 → p <ℤ pos 0 → (s.span.first.num *ℤ (pos 0 -ℤ p)) <ℤ ((pos 0 -ℤ q) *ℤ s.span.first.den)
        → SidedCut p q k s (record {
          span = record { first = record { num = pos 0 -ℤ q; den = pos 0 -ℤ p }; last = s.span.last };
          side0 = k;
          side1 = s.side1;
        })
    sided_in hq hp l = record {
      span = comes_later p q s.span g hq hp l;
      start = λ _. later_start l (record { crosses = hp; on = ring (p ∷ q ∷ []) (x0 ⊗ (con (pos 0) ⊖ x1)) (x1 ⊗ (con (pos 0) ⊖ x0)) tt });
      end = λ _. same_end;
    }

    pub sided_never : {i j : ℕ} → q <ℤ pos 0 → pos 0 ≤ℤ p
        → SidedCut p q k s (record {
          span = record { first = record { num = pos 1; den = pos 1 }; last = record { num = pos 0; den = pos 1 } };
          side0 = i;
          side1 = j;
        })
    sided_never hq hp = record { span = never p q s.span g hq hp; start = λ h. absurd (omega zarith); end = λ h. absurd (omega zarith) }

    pub sided_out : pos 0 ≤ℤ q → q <ℤ p → (q *ℤ s.span.last.den) <ℤ (s.span.last.num *ℤ p)
        → SidedCut p q k s (record { span = record { first = s.span.first; last = record { num = q; den = p } }; side0 = s.side0; side1 = k })
    sided_out hq hp l = record {
      span = leaves_sooner p q s.span g hq hp l;
      start = λ _. same_start;
      end = λ _. sooner_end l (record { crosses = omega zarith; on = ring (p ∷ q ∷ []) (x0 ⊗ x1) (x1 ⊗ x0) tt });
    }
