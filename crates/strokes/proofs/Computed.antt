-- The answer as a function, which satisfies the statement and so is the only answer that does. With it a worked example computes, and a loop over strokes has equations.
use mathlib.Core.Path.{◌≡◌, refl}
use mathlib.Core.List.{List, [], ◌∷◌}
use Prim.Native.Nat.{ℕ}
use native.Mathlib.Omega.{arith}
use borrow.Author.Tests.{eqb-true, eqb-false}
use lib.Dec.{eqb}
use lib.IntN.{ℤ, neg_ℤ, ◌-ℤ◌}
use Rattle.whole.specs.Choice.{when◌then◌else◌}
use Rattle.whole.specs.Within.{Within}
use Rattle.whole.proofs.Comparisons.{by-test}
use Rattle.whole.proofs.Expressions.{◌⊖◌, neg, x0, x1, x2, x3}
use Rattle.whole.proofs.Ranges.{Bounds, within}
use Rattle.fraction.specs.declared.Fraction.{Fraction}
use Rattle.fraction.specs.Fraction.{less_than}
use Rattle.fraction.proofs.Comparing.{less_taken, less_left}
use Rattle.fraction.proofs.Computed.{lowest_of, lowest_of_is, rounded_at, rounded_at_is}
use Rattle.grid.specs.declared.Stroke.{Stroke}
use Rattle.grid.specs.declared.Window.{Window}
use Rattle.grid.specs.Refusals.{none}
use Rattle.grid.specs.Table.{farthest, WindowOnTable, StrokeOnTable}
use Rattle.grid.proofs.Refusals.{window_on_table, stroke_on_table}
use Rattle.rings.specs.Lists.{All, ∅, ◌◂◌}
use Rattle.spans.specs.declared.SidedSpan.{SidedSpan}
use Rattle.spans.specs.Sides.{Condition}
use Rattle.spans.specs.Spans.{SpanOf, KeptBy}
use Rattle.spans.proofs.Computed.{kept_of, kept_of_is}
use Rattle.strokes.specs.Sides.{conditions}
use Rattle.strokes.specs.Strokes.{Keeps, Clipped, Clipping, stroke_call_refusal, blank}
use Rattle.strokes.specs.Workers.{kept_answer}
use Rattle.strokes.specs.declared.End.{End}
use Rattle.strokes.specs.declared.StrokeAnswer.{StrokeAnswer}
use Rattle.strokes.proofs.Answers.{nothing_kept, span_missed, span_kept}
use Rattle.strokes.proofs.Refusing.{nothing_refused}
use Rattle.strokes.proofs.Unique.{one_stroke_answer}
use Rattle.strokes.proofs.Sides.{keeps_meets, meets_keeps}

-- ---- the kept fractions, with their sides
unfoldable pub span_of : Window → Stroke → SidedSpan
span_of w s = kept_of (conditions w s)

-- the numbers of the two conditions of one coordinate
abbrev Small : Condition → Type 0
Small c = Within 32766 c.p × Within 32766 c.q

small_axis : {lo hi a b : ℤ} → Within farthest lo → Within farthest hi → Within farthest a → Within farthest b
    → Small (record { p = neg_ℤ (b -ℤ a); q = a -ℤ lo }) × Small (record { p = b -ℤ a; q = hi -ℤ a })
small_axis {lo} {hi} {a} {b} wl wh wa wb =
    let β : List ℕ = farthest ∷ farthest ∷ farthest ∷ farthest ∷ [] in
    let ρ = lo ∷ hi ∷ a ∷ b ∷ [] in
    let h : Bounds β ρ = (wl, (wh, (wa, (wb, tt)))) in (
      (within β ρ h (neg (x3 ⊖ x2)) tt, within β ρ h (x2 ⊖ x0) tt),
      (within β ρ h (x3 ⊖ x2) tt, within β ρ h (x1 ⊖ x2) tt),
    )

module _ {w : Window} {s : Stroke} (hw : WindowOnTable w) (hs : StrokeOnTable s) where
  small : All Small (conditions w s)
  small =
      let x = small_axis hw.left hw.right hs.x1 hs.x2 in
      let y = small_axis hw.bottom hw.top hs.y1 hs.y2 in
      x.0 ◂ x.1 ◂ y.0 ◂ y.1 ◂ ∅

  span_of_is : KeptBy 32766 (conditions w s) (span_of w s)
  unfolding span_of
  span_of_is = kept_of_is (omega arith) (conditions w s) small

kept_span : {w : Window} {s : Stroke} {r : SidedSpan} → KeptBy 32766 (conditions w s) r → SpanOf 32766 (Keeps w s) r.span
kept_span g = record {
  proper = g.span.proper;
  sized = g.span.sized;
  stays = λ n d k. g.span.stays n d (keeps_meets k);
  keeps = λ n d h i. meets_keeps (g.span.keeps n d h i);
}

-- ---- the answer
abbrev pub end_at : Stroke → Fraction → ℕ → End
end_at s f k = record { t = f; x = rounded_at s.x1 s.x2 f.num f.den; y = rounded_at s.y1 s.y2 f.num f.den; side = k }

abbrev pub ends : Stroke → SidedSpan → StrokeAnswer
ends s r =
    let f = r.span.first in
    let g = r.span.last in
    kept_answer (end_at s f r.side0) (end_at s g r.side1) (lowest_of f.num f.den) (lowest_of g.num g.den)

unfoldable pub clipped_of : Window → Stroke → StrokeAnswer
clipped_of w s = let r = span_of w s in when less_than r.span.last r.span.first then blank none else ends s r

pub clipped_of_is : {w : Window} {s : Stroke} → WindowOnTable w → StrokeOnTable s → Clipped w s (clipped_of w s)
unfolding clipped_of
clipped_of_is {w} {s} g h =
    let r = span_of w s in
    let f = r.span.first in
    let l = r.span.last in
    let m = span_of_is g h in
    let k = kept_span m in
    by-test (less_than l f) (Clipped w s)
    (λ e. nothing_kept (span_missed k (less_taken l f e)))
    (λ e.
    let some = less_left l f e in
    span_kept k some (end_at s f r.side0) (end_at s l r.side1)
    (record { across = rounded_at_is _ _ _ k.proper.den0; up = rounded_at_is _ _ _ k.proper.den0 })
    (record { across = rounded_at_is _ _ _ k.proper.den1; up = rounded_at_is _ _ _ k.proper.den1 })
    (m.start some) (m.end some)
    (lowest_of_is _ k.proper.den0) (lowest_of_is _ k.proper.den1))

unfoldable pub answer_of : Window → Stroke → StrokeAnswer
answer_of w s = when eqb (stroke_call_refusal w s).number 0 then clipped_of w s else blank (stroke_call_refusal w s)

pub answer_of_is : (w : Window) (s : Stroke) → Clipping w s (answer_of w s)
unfolding answer_of
answer_of_is w s =
    by-test (eqb (stroke_call_refusal w s).number 0) (Clipping w s)
    (λ e.
    let z = eqb-true (stroke_call_refusal w s).number 0 e in
    let p = nothing_refused w s z in
    record { refused = λ n. absurd (n z); done = λ _. clipped_of_is (window_on_table w p.0) (stroke_on_table s p.1) })
    (λ e. record { refused = λ _. refl; done = λ z. absurd (eqb-false (stroke_call_refusal w s).number 0 e z) })

pub computed : {w : Window} {s : Stroke} {a : StrokeAnswer} → Clipping w s a → a ≡ answer_of w s
computed {w} {s} {a} p = one_stroke_answer w s a (answer_of w s) p (answer_of_is w s)
