-- The part that an answer gives has exactly the fractions that are kept: a condition p·t ≤ q that holds at both ends holds between them.
use mathlib.Core.Path.{sym, ap, ◌∙◌}
use mathlib.Core.List.{List, [], ◌∷◌}
use mathlib.Core.Logic.{⊎_elim, ◌↔◌}
use lib.IntN.{ℤ, pos, ◌*ℤ◌}
use lib.Signed.{◌≤ℤ◌, ◌<ℤ◌}
use Rattle.whole.proofs.Certificates.{ge_by, po, nn, le, lt, ◌⊞◌, ◌⊠◌}
use Rattle.whole.proofs.Expressions.{con, ◌⊗◌, x0, x1, x2, x3, var}
use Rattle.whole.proofs.Order.{≤_total}
use Rattle.rings.specs.Lists.{All, ∅, ◌◂◌}
use Rattle.grid.specs.declared.Stroke.{Stroke}
use Rattle.grid.specs.declared.Window.{Window}
use Rattle.grid.proofs.Refusals.{done_or_refused}
use Rattle.spans.specs.Parts.{Time}
use Rattle.spans.specs.Sides.{Condition, MeetsAll}
use Rattle.spans.specs.Spans.{InSpan}
use Rattle.spans.specs.declared.Span.{Span}
use Rattle.strokes.specs.Laws.{InPart, PartIsInside}
use Rattle.strokes.specs.Strokes.{Keeps, Clipped, stroke_call_refusal}
use Rattle.strokes.specs.declared.StrokeAnswer.{StrokeAnswer}
use Rattle.strokes.proofs.Sides.{keeps_meets, meets_keeps}

-- ---- from one end of a span to the other
module _ {s : Span} {n d : ℤ} (den : pos 0 <ℤ d) (i : InSpan s n d) where
  time_between : Time s.first.num s.first.den → Time s.last.num s.last.den → Time n d
  time_between t u = record {
    den = den;
    low = ge_by (s.first.num ∷ s.first.den ∷ n ∷ d ∷ []) (po x1 t.den) (con (pos 0)) x2
        (le (x0 ⊗ x3) (x2 ⊗ x1) i.from ⊞ nn x0 t.low ⊠ po x3 den) tt;
    high = ge_by (s.last.num ∷ s.last.den ∷ n ∷ d ∷ []) (po x1 u.den) x2 x3
        (le (x2 ⊗ x1) (x0 ⊗ x3) i.upto ⊞ le x0 x1 u.high ⊠ po x3 den) tt;
  }

  meets_between : (p q : ℤ) → pos 0 <ℤ s.first.den → pos 0 <ℤ s.last.den
      → (p *ℤ s.first.num) ≤ℤ (q *ℤ s.first.den) → (p *ℤ s.last.num) ≤ℤ (q *ℤ s.last.den) → (p *ℤ n) ≤ℤ (q *ℤ d)
  meets_between p q fd ld h k = ⊎_elim
      (λ g. ge_by (s.last.num ∷ s.last.den ∷ n ∷ d ∷ p ∷ q ∷ []) (po x1 ld) (var 4 ⊗ x2) (var 5 ⊗ x3)
      (le (var 4 ⊗ x0) (var 5 ⊗ x1) k ⊠ po x3 den ⊞ le (x2 ⊗ x1) (x0 ⊗ x3) i.upto ⊠ nn (var 4) g) tt)
      (λ g. ge_by (s.first.num ∷ s.first.den ∷ n ∷ d ∷ p ∷ q ∷ []) (po x1 fd) (var 4 ⊗ x2) (var 5 ⊗ x3)
      (le (var 4 ⊗ x0) (var 5 ⊗ x1) h ⊠ po x3 den ⊞ le (x0 ⊗ x3) (x2 ⊗ x1) i.from ⊠ lt (var 4) (con (pos 0)) g) tt)
      (≤_total (pos 0) p)

  meets_all_between : {cs : List Condition} → MeetsAll cs s.first.num s.first.den → MeetsAll cs s.last.num s.last.den → MeetsAll cs n d
  meets_all_between h k = record { time = time_between h.time k.time; each = go h.each k.each }
    where
      go : {cs : List Condition} → All (λ (c : Condition). (c.p *ℤ s.first.num) ≤ℤ (c.q *ℤ s.first.den)) cs
          → All (λ (c : Condition). (c.p *ℤ s.last.num) ≤ℤ (c.q *ℤ s.last.den)) cs
          → All (λ (c : Condition). (c.p *ℤ n) ≤ℤ (c.q *ℤ d)) cs
      go ∅ ∅ = ∅
      go (◌◂◌ {x = c} x xs) (y ◂ ys) = meets_between c.p c.q h.time.den k.time.den x y ◂ go xs ys

  pub keeps_between : {w : Window} {r : Stroke} → Keeps w r s.first.num s.first.den → Keeps w r s.last.num s.last.den → Keeps w r n d
  keeps_between h k = meets_keeps (meets_all_between (keeps_meets h) (keeps_meets k))

-- ---- the part of an answer
module _ {w : Window} {s : Stroke} {a : StrokeAnswer} (p : Clipped w s a) where
  pub part_inside : (n d : ℤ) → InPart a n d ↔ Keeps w s n d
  part_inside n d = (there, back)
    where
      there : InPart a n d → Keeps w s n d
      there i = keeps_between i.den i.between (p.part.first i.kept).keeps (p.part.last i.kept).keeps

      back : Keeps w s n d → InPart a n d
      back k =
          let e = p.part.keeps n d k in
          record { kept = e; den = k.time.den; between = record { from = (p.part.first e).least n d k; upto = (p.part.last e).greatest n d k } }

pub part_is_inside : PartIsInside
part_is_inside w s a p e =
    done_or_refused (stroke_call_refusal w s)
    (λ z. part_inside (p.done z))
    (λ n. absurd (n (ap (λ (b : StrokeAnswer). b.number) (sym (p.refused n)) ∙ e)))
