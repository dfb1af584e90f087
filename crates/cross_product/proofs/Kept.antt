-- From the found start to the found end all of the stroke is kept, and nothing else: a side that fixes an end is crossed there, so that beyond it no
-- fraction meets its condition; and what meets all conditions at both ends meets them between.
use mathlib.Core.Path.{◌≡◌, sym, subst}
use mathlib.Core.List.{List, [], ◌∷◌}
use Prim.Native.Nat.{ℕ}
use lib.IntN.{ℤ, pos, ◌*ℤ◌, ℤ_discrete}
use lib.Signed.{◌≤ℤ◌}
use Rattle.whole.proofs.Certificates.{ge, ge_by, eq, po, nn, le, lt, ◌⊞◌, ◌⊠◌}
use Rattle.whole.proofs.Expressions.{var, con, ◌⊗◌, neg, x0, x1, x2, x3}
use Rattle.fraction.specs.declared.Fraction.{Fraction}
use Rattle.grid.specs.declared.Stroke.{Stroke}
use Rattle.grid.specs.declared.Window.{Window}
use Rattle.rings.specs.Lists.{All, ◌◂◌}
use Rattle.spans.specs.declared.Span.{Span}
use Rattle.spans.specs.Parts.{Time}
use Rattle.spans.specs.Sides.{Condition, MeetsAll, FirstOf, here, later, StartSide, EndSide}
use Rattle.spans.specs.Spans.{SpanOf}
use Rattle.spans.proofs.Parts.{time_within}
use Rattle.strokes.specs.declared.End.{End}
use Rattle.strokes.specs.declared.StrokeAnswer.{StrokeAnswer}
use Rattle.strokes.specs.Strokes.{Keeps, Clipped}
use Rattle.strokes.specs.Workers.{KeptAnswer}
use Rattle.strokes.proofs.Answers.{span_kept}
use Rattle.strokes.proofs.Between.{keeps_between}
use Rattle.strokes.proofs.Sides.{keeps_meets, meets_keeps}
use Rattle.cross_product.specs.Workers.{EndFound}

-- of the first that satisfies P something else is known too
told : {P Q : Condition → Type 0} {C : Type 0} {cs : List Condition} {k : ℕ} → ((c : Condition) → P c → Q c → C) → FirstOf P cs k → All Q cs → C
told f (here {x = c} p) (q ◂ qs) = f c p q
told f (later n r) (q ◂ qs) = told f r qs

module _ {cs : List Condition} (f : Fraction) (time : Time f.num f.den) {k : ℕ} (n d : ℤ) (m : MeetsAll cs n d) where
  -- no fraction before the start, and none behind the end
  pub from_start : StartSide cs f k → (f.num *ℤ d) ≤ℤ (n *ℤ f.den)
  from_start s = go (ℤ_discrete f.num (pos 0))
    where
      go : Dec (f.num ≡ pos 0) → (f.num *ℤ d) ≤ℤ (n *ℤ f.den)
      go (yes z) = ge (f.num ∷ f.den ∷ n ∷ d ∷ []) (x0 ⊗ x3) (x2 ⊗ x1) (nn x2 m.time.low ⊠ po x1 time.den ⊞ eq (neg x3) x0 (con (pos 0)) z) tt
      go (no o) = told
          (λ c x h.
          ge_by (f.num ∷ f.den ∷ n ∷ d ∷ c.p ∷ c.q ∷ []) (lt (var 4) (con (pos 0)) x.crosses) (x0 ⊗ x3) (x2 ⊗ x1)
          (po x1 time.den ⊠ le (var 4 ⊗ x2) (var 5 ⊗ x3) h ⊞ eq x3 (var 4 ⊗ x0) (var 5 ⊗ x1) x.on) tt)
          (s.fixed o) m.each

  pub upto_end : EndSide cs f k → (n *ℤ f.den) ≤ℤ (f.num *ℤ d)
  upto_end s = go (ℤ_discrete f.num f.den)
    where
      go : Dec (f.num ≡ f.den) → (n *ℤ f.den) ≤ℤ (f.num *ℤ d)
      go (yes z) = ge (f.num ∷ f.den ∷ n ∷ d ∷ []) (x2 ⊗ x1) (x0 ⊗ x3) (le x2 x3 m.time.high ⊠ po x1 time.den ⊞ eq x3 x0 x1 z) tt
      go (no o) = told
          (λ c x h.
          ge_by (f.num ∷ f.den ∷ n ∷ d ∷ c.p ∷ c.q ∷ []) (po (var 4) x.crosses) (x2 ⊗ x1) (x0 ⊗ x3)
          (po x1 time.den ⊠ le (var 4 ⊗ x2) (var 5 ⊗ x3) h ⊞ eq x3 (var 4 ⊗ x0) (var 5 ⊗ x1) x.on) tt)
          (s.fixed o) m.each

module _ {w : Window} {s : Stroke} {a b : End} (i : EndFound StartSide w s a) (o : EndFound EndSide w s b) where
  abbrev span : Span
  span = record { first = a.t; last = b.t }

  found_span : SpanOf 32766 (Keeps w s) span
  found_span = record {
    proper = record { low = i.meets.time.low; high = o.meets.time.high; den0 = i.meets.time.den; den1 = o.meets.time.den };
    sized = record {
      n0 = time_within i.meets.time i.small;
      d0 = i.small;
      n1 = time_within o.meets.time o.small;
      d1 = o.small;
    };
    stays = λ n d k. record {
      from = from_start a.t i.meets.time n d (keeps_meets k) i.side;
      upto = upto_end b.t o.meets.time n d (keeps_meets k) o.side;
    };
    keeps = λ n d h k. keeps_between h k (meets_keeps i.meets) (meets_keeps o.meets);
  }

  pub found_kept : {r : StrokeAnswer} → KeptAnswer a b r → Clipped w s r
  found_kept {r} h =
      subst (Clipped w s) (sym h.answer)
      (span_kept found_span (from_start a.t i.meets.time b.t.num b.t.den o.meets i.side) a b i.point o.point i.side o.side
      h.first h.last)
