-- Two answers that satisfy the statement for one window and one stroke are equal: the kept part is the only one, and so are each rounded point and each side.
use mathlib.Core.Path.{◌≡◌, refl, sym, subst, ◌∙◌}
use mathlib.Core.Bool.{Bool, true, false}
use Rattle.fraction.specs.declared.Fraction.{Fraction}
use Rattle.grid.specs.declared.Stroke.{Stroke}
use Rattle.grid.specs.declared.Window.{Window}
use Rattle.grid.proofs.Refusals.{done_or_refused}
use Rattle.spans.specs.Sides.{StartSide, EndSide}
use Rattle.spans.proofs.Parts.{part_unique}
use Rattle.spans.proofs.Sides.{start_unique, end_unique}
use Rattle.strokes.specs.Laws.{OneStrokeAnswer}
use Rattle.strokes.specs.Sides.{conditions}
use Rattle.strokes.specs.Strokes.{PointAt, Clipped, stroke_call_refusal}
use Rattle.strokes.specs.declared.StrokeAnswer.{StrokeAnswer}
use Rattle.strokes.proofs.Points.{point_unique}

module _ {w : Window} {s : Stroke} where
  pub clipped_unique : {a b : StrokeAnswer} → Clipped w s a → Clipped w s b → a ≡ b
  clipped_unique {a} {b} p q = go a.kept refl
    where
      same : (a.kept ≡ b.kept) × (a.t0 ≡ b.t0) × (a.t1 ≡ b.t1)
      same = part_unique p.part q.part

      go : (k : Bool) → a.kept ≡ k → a ≡ b
      go false e = p.missed e ∙ sym (q.missed (sym same.0 ∙ e))
      go true e =
          let f = sym same.0 ∙ e in
          let one = point_unique (p.part.first e).keeps.time.den (p.start e) (subst (λ (t : Fraction). PointAt s t b.ax b.ay) (sym same.1) (q.start f)) in
          let other = point_unique (p.part.last e).keeps.time.den (p.finish e)
          (subst (λ (t : Fraction). PointAt s t b.bx b.by) (sym same.2) (q.finish f)) in
          let in_by = start_unique (p.start_side e) (subst (λ (t : Fraction). StartSide (conditions w s) t b.side0) (sym same.1) (q.start_side f)) in
          let out_by = end_unique (p.end_side e) (subst (λ (t : Fraction). EndSide (conditions w s) t b.side1) (sym same.2) (q.end_side f)) in
          let number = p.number ∙ sym q.number in
          let place = p.place ∙ sym q.place in
          λ i. record {
            number = number i;
            place = place i;
            kept = same.0 i;
            t0 = same.1 i;
            t1 = same.2 i;
            ax = one.0 i;
            ay = one.1 i;
            bx = other.0 i;
            by = other.1 i;
            side0 = in_by i;
            side1 = out_by i;
          }

pub one_stroke_answer : OneStrokeAnswer
one_stroke_answer w s a b p q =
    done_or_refused (stroke_call_refusal w s) (λ z. clipped_unique (p.done z) (q.done z)) (λ n. p.refused n ∙ sym (q.refused n))
