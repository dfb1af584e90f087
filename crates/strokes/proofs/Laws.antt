-- The laws of specs/Laws.antt: a rounded point of a kept fraction is inside, the number of an end that is not the stroke's own is that of a side, a
-- dot inside is there with both ends, and the four conditions are those of the two coordinates.
use mathlib.Core.Path.{◌≡◌, sym, ap, subst, ◌∙◌}
use mathlib.Core.Bool.{true}
use native.Mathlib.Omega.{arith}
use lib.IntN.{ℤ}
use lib.Signed.{◌≤ℤ◌}
use Rattle.whole.proofs.Comparisons.{ff_tt}
use Rattle.grid.specs.declared.Stroke.{Stroke}
use Rattle.grid.specs.declared.Window.{Window}
use Rattle.grid.proofs.Refusals.{done_or_refused}
use Rattle.spans.specs.Sides.{OwnEnds}
use Rattle.spans.proofs.Sides.{own_ends, no_ends}
use Rattle.strokes.specs.Laws.{InClosedWindow, StaysInside, SideOrOwnEnd, DotKept, FourConditions}
use Rattle.strokes.specs.Strokes.{Clipped, stroke_call_refusal}
use Rattle.strokes.specs.Workers.{EndsBetween, EndsInside}
use Rattle.strokes.specs.declared.StrokeAnswer.{StrokeAnswer}
use Rattle.strokes.proofs.Answers.{inside_always, whole_answer_lem}
use Rattle.strokes.proofs.Points.{point_inside}
use Rattle.strokes.proofs.Sides.{keeps_meets, meets_keeps}
use Rattle.strokes.proofs.Unique.{clipped_unique}

pub clipped_inside : {w : Window} {s : Stroke} {a : StrokeAnswer} → Clipped w s a → a.kept ≡ true
    → InClosedWindow w a.ax a.ay × InClosedWindow w a.bx a.by
clipped_inside p e =
    let f = (p.part.first e).keeps in
    let l = (p.part.last e).keeps in
    (point_inside f.time.den f (p.start e), point_inside l.time.den l (p.finish e))

pub stays_inside : StaysInside
stays_inside w s a p e =
    done_or_refused (stroke_call_refusal w s)
    (λ z. clipped_inside (p.done z) e)
    (λ n. absurd (ff_tt (sym (ap (λ (b : StrokeAnswer). b.kept) (p.refused n)) ∙ e)))

clipped_own : {w : Window} {s : Stroke} {a : StrokeAnswer} → Clipped w s a → OwnEnds 4 a.kept a.t0 a.t1 a.side0 a.side1
clipped_own p =
    own_ends p.part (omega arith) p.start_side p.end_side
    (λ e. (ap (λ (b : StrokeAnswer). b.side0) (p.missed e), ap (λ (b : StrokeAnswer). b.side1) (p.missed e)))

pub side_or_own_end : SideOrOwnEnd
side_or_own_end w s a p =
    done_or_refused (stroke_call_refusal w s)
    (λ z. clipped_own (p.done z))
    (λ n.
    subst (λ (b : StrokeAnswer). OwnEnds 4 b.kept b.t0 b.t1 b.side0 b.side1) (sym (p.refused n))
    no_ends)

-- ---- no length
dot_between : {lo hi a b : ℤ} → a ≡ b → lo ≤ℤ a → a ≤ℤ hi → EndsBetween lo hi a b
dot_between {lo} {hi} e l h = record { a_low = l; a_high = h; b_low = subst (λ (c : ℤ). lo ≤ℤ c) e l; b_high = subst (λ (c : ℤ). c ≤ℤ hi) e h }

pub dot_kept : DotKept
dot_kept w s a p e x y k =
    done_or_refused (stroke_call_refusal w s)
    (λ z.
    let inside : EndsInside w s = record {
      x = dot_between x k.left k.right;
      y = dot_between y k.bottom k.top;
    } in
    let same = clipped_unique (p.done z) (whole_answer_lem (inside_always inside)) in
    (ap (λ (b : StrokeAnswer). b.kept) same, ap (λ (b : StrokeAnswer). b.t0) same, ap (λ (b : StrokeAnswer). b.t1) same))
    (λ n. absurd (n (ap (λ (b : StrokeAnswer). b.number) (sym (p.refused n)) ∙ e)))

pub four_conditions : FourConditions
four_conditions w s n d = (keeps_meets, meets_keeps)
