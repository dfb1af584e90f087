-- The law of specs/Laws.antt: the two calls refuse alike, and a point lies in the rectangle exactly when it lies in
-- the ring of its four corners.
use mathlib.Core.Path.{◌≡◌, refl, sym, ap, ◌∙◌}
use mathlib.Core.Bool.{Bool, true, false}
use mathlib.Core.Logic.{◌↔◌}
use borrow.Author.Tests.{eqb-true, eqb-false}
use lib.Dec.{eqb}
use lib.IntN.{ℤ}
use Rattle.corners.specs.Corners.{cyrus_beck_refusal}
use Rattle.corners.specs.declared.CornerAnswer.{CornerAnswer}
use Rattle.corners.proofs.Rectangles.{KeepsInWindow, Alike, same_refusal, rectangle}
use Rattle.grid.specs.declared.Stroke.{Stroke}
use Rattle.grid.specs.declared.Window.{Window}
use Rattle.grid.proofs.Refusals.{window_on_table}
use Rattle.spans.proofs.Parts.{part_unique}
use Rattle.strokes.specs.Strokes.{Keeps, stroke_call_refusal}
use Rattle.strokes.specs.declared.StrokeAnswer.{StrokeAnswer}
use Rattle.strokes.proofs.Refusing.{nothing_refused}
use Rattle.worked.specs.Laws.{SameAnswer, RectangleAsCorners}

keeps_same : (w : Window) (s : Stroke) (n d : ℤ) → KeepsInWindow w s n d ↔ Keeps w s n d
keeps_same w s n d = (
  λ q. record { time = q.time; x = record { above = q.inside.left; below = q.inside.right }; y = record { above = q.inside.bottom; below = q.inside.top } },
  λ q. record { time = q.time; inside = record { left = q.x.above; right = q.x.below; bottom = q.y.above; top = q.y.below } },
)

pub rectangle_as_corners : RectangleAsCorners
unfolding stroke_call_refusal
rectangle_as_corners w s zs a b over k h p = go (eqb (stroke_call_refusal w s).number 0) refl
  where
    same : Alike (cyrus_beck_refusal zs s) (stroke_call_refusal w s)
    same = same_refusal k s over

    go : (c : Bool) → eqb (stroke_call_refusal w s).number 0 ≡ c → SameAnswer a b
    go true t =
        let z = eqb-true (stroke_call_refusal w s).number 0 t in
        let c = h.done (same.0 ∙ z) in
        let d = p.done z in
        let on = window_on_table w (nothing_refused w s z).0 in
        let q = part_unique (rectangle on k (keeps_same w s) c.part) d.part in
        record {
          number = c.number ∙ sym d.number;
          place = λ _. c.place ∙ sym d.place;
          kept = q.0;
          t0 = q.1;
          t1 = q.2;
        }
    go false t =
        let n = eqb-false (stroke_call_refusal w s).number 0 t in
        let c = h.refused (λ z. n (sym same.0 ∙ z)) in
        let d = p.refused n in
        let number = ap (λ (x : CornerAnswer). x.number) c in
        record {
          number = number ∙ same.0 ∙ sym (ap (λ (x : StrokeAnswer). x.number) d);
          place = λ off. ap (λ (x : CornerAnswer). x.place) c ∙ same.1 (λ e. off (number ∙ e))
              ∙ sym (ap (λ (x : StrokeAnswer). x.place) d);
          kept = ap (λ (x : CornerAnswer). x.kept) c ∙ sym (ap (λ (x : StrokeAnswer). x.kept) d);
          t0 = ap (λ (x : CornerAnswer). x.t0) c ∙ sym (ap (λ (x : StrokeAnswer). x.t0) d);
          t1 = ap (λ (x : CornerAnswer). x.t1) c ∙ sym (ap (λ (x : StrokeAnswer). x.t1) d);
        }
