-- The one theorem over the table: what is computed satisfies the statements, nothing else does, and the table has it.
-- An outline's answer is the same in every order.
use mathlib.Core.Path.{◌≡◌, refl, sym, ◌∙◌, subst, transport}
use mathlib.Core.List.{List}
use Prim.Native.Nat.{ℕ, ◌≤◌}
use native.Mathlib.Omega.{arith}
use lib.Count.{count_trailing_zeros}
use lib.IntN.{ℤ}
use Rattle.codes.specs.Codes.{code, decision}
use Rattle.codes.specs.declared.CountedAnswer.{CountedAnswer}
use Rattle.codes.specs.Steps.{CohenSutherland}
use Rattle.codes.proofs.Computed.{meeting_of, step_of, count_of, counted_of, counted_of_is, computed}
use Rattle.codes.proofs.Runs.{engines_agree}
use Rattle.convex.specs.Corners.{corners_of, every, next, joins, is_left, strictly_convex}
use Rattle.convex.specs.Corners.{right_count, count_refusal, convex_refusal}
use Rattle.corners.specs.Corners.{cyrus_beck_refusal, CyrusBeck}
use Rattle.corners.specs.declared.CornerAnswer.{CornerAnswer}
use Rattle.corners.proofs.Computed.{clipped_of as cornerClippedOf, answer_of as cornerAnswerOf, answer_of_is as cornerAnswerOf-is, computed as corner-computed}
use Rattle.fraction.specs.Fraction.{less_than}
use Rattle.fraction.proofs.Computed.{euclid, lowest_of, rounded_at}
use Rattle.whole.specs.Only.{TheOnly}
use Rattle.whole.specs.Rounding.{to_even}
use Rattle.grid.specs.declared.Stroke.{Stroke}
use Rattle.grid.specs.Calls.{written, answered_by}
use Rattle.grid.specs.Refusals.{first, off_table, no_area, window_refusal, stroke_refusal, room_refusal}
use Rattle.grid.specs.Table.{on_table, first_off}
use Rattle.outlines.specs.Outlines.{last_order, bad_order, outline_refusal, Outline}
use Rattle.outlines.proofs.Computed.{kept_of, added_of, pass_of, cut_of, cuts_of, is_before, least_of, start_of}
use Rattle.outlines.proofs.Computed.{ring_of, outline_of, counts_of, passed_of, passes_of, answer_of, output_of, answer_is}
use Rattle.writing.proofs.Numbers.{numbers_of}
use Rattle.outlines.specs.Laws.{ring_answer}
use Rattle.outlines.specs.declared.OutlineAnswer.{OutlineAnswer}
use Rattle.outlines.proofs.Theorems.{any_order}
use Rattle.passes.specs.Orders.{sides_in, lines_in}
use Rattle.rings.specs.Lists.{∅, ◌◂◌}
use Rattle.rings.specs.Points.{value, through}
use Rattle.rings.specs.Windows.{left_side, right_side, bottom_side, top_side}
use Rattle.rings.proofs.Passes.{meet}
use Rattle.spans.proofs.Computed.{cut_by, cut_from, kept_of as spanKeptOf}
use Rattle.strokes.specs.Strokes.{stroke_call_refusal}
use Rattle.strokes.proofs.Computed.{span_of, clipped_of, answer_of as strokeAnswerOf}
use Rattle.worked.specs.Examples.{ten, zeros, Verdict, expected, Answered, StrokeHolds, OutlineHolds, table}
use Rattle.worked.specs.Laws.{Worked}

-- a stroke: both calls' answers are the computed one
stroke_holds : {s : Stroke} {r : CountedAnswer} → counted_of ten s ≡ r → StrokeHolds s r
stroke_holds {s} e =
    let c = subst (CohenSutherland ten s) e (counted_of_is ten s) in
    record {
      liang_barsky = record { holds = c.clipping; only = λ a h. sym (engines_agree ten s _ a c h) };
      cohen_sutherland = record { holds = c; only = λ r h. computed h ∙ e };
    }

-- an outline: in any order what is computed in order 0
outline_holds : {zs : List ℤ} {e : Verdict}
    → ring_answer (answer_of ten 0 zs 32) ≡ (expected e).0 → output_of ten 0 zs (zeros 32) ≡ (expected e).1 → OutlineHolds zs e
outline_holds {zs} {e} p q = record {
  in_order = λ o l. let c = answer_is ten o zs (zeros 32) in let k = is o l c in record {
    holds = transport (λ i. Answered o zs (k.0 i, k.1 i)) (record { passes = (answer_of ten o zs 32).passes; promised = c });
    only = λ r h. let k = is o l h.promised in λ i. (k.0 i, k.1 i);
  };
}
  where
    is : (o : ℕ) → o ≤ last_order → {a : OutlineAnswer} {after : List ℤ} → Outline ten o zs a (zeros 32) after
        → (ring_answer a ≡ (expected e).0) × (after ≡ (expected e).1)
    is o l {a} {after} h =
        let k = any_order ten o 0 zs a (answer_of ten 0 zs 32) (zeros 32) after (output_of ten 0 zs (zeros 32)) l (omega arith) h (answer_is ten 0 zs (zeros 32)) in
        (k.0 ∙ p, k.1 ∙ q)

-- a corner window
corner_holds : {zs : List ℤ} {s : Stroke} {r : CornerAnswer} → cornerAnswerOf zs s ≡ r → TheOnly (CyrusBeck zs s) r
corner_holds {zs} {s} e = record { holds = subst (CyrusBeck zs s) e (cornerAnswerOf-is zs s); only = λ a h. corner-computed h ∙ e }

pub worked : Worked
unfolding table cornerAnswerOf cornerClippedOf cyrus_beck_refusal counted_of count_of step_of meeting_of code decision count_trailing_zeros
    stroke_call_refusal stroke_refusal strokeAnswerOf clipped_of span_of spanKeptOf cut_from cut_by less_than rounded_at to_even
    euclid lowest_of answer_of output_of answered_by room_refusal written outline_of passes_of passed_of counts_of ring_of cuts_of cut_of pass_of
    kept_of added_of meet is_before least_of start_of numbers_of outline_refusal first window_refusal no_area bad_order
    count_refusal right_count off_table first_off on_table convex_refusal strictly_convex every next joins is_left corners_of
    value through sides_in lines_in left_side right_side bottom_side top_side
worked =
    stroke_holds refl ◂ stroke_holds refl ◂ stroke_holds refl ◂ stroke_holds refl ◂ stroke_holds refl ◂ stroke_holds refl
    ◂ stroke_holds refl ◂ stroke_holds refl ◂ outline_holds refl refl ◂ outline_holds refl refl
    ◂ outline_holds refl refl ◂ outline_holds refl refl ◂ outline_holds refl refl ◂ stroke_holds refl ◂ stroke_holds refl
    ◂ stroke_holds refl ◂ stroke_holds refl ◂ stroke_holds refl ◂ stroke_holds refl ◂ corner_holds refl ◂ corner_holds refl ◂ corner_holds refl
    ◂ corner_holds refl ◂ stroke_holds refl ◂ ∅
