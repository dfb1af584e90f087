-- The answer as a function, which satisfies the statement and so is the only answer that does: with it a worked example computes.
use mathlib.Core.Path.{◌≡◌, refl}
use mathlib.Core.Bool.{true}
use mathlib.Core.List.{List}
use native.Mathlib.Omega.{arith}
use borrow.Author.Tests.{eqb-true, eqb-false}
use lib.Dec.{eqb}
use lib.IntN.{ℤ}
use lib.ListN.{length}
use Rattle.whole.specs.Choice.{when◌then◌else◌}
use Rattle.whole.proofs.Comparisons.{by-test}
use Rattle.fraction.specs.Fraction.{less_than}
use Rattle.fraction.proofs.Computed.{lowest_of, lowest_of_is}
use Rattle.grid.specs.Refusals.{none}
use Rattle.grid.specs.Table.{StrokeOnTable}
use Rattle.grid.specs.declared.Stroke.{Stroke}
use Rattle.rings.specs.Points.{Point}
use Rattle.convex.specs.Corners.{corners_of, CornersOnTable}
use Rattle.spans.specs.Spans.{largest, KeptBy}
use Rattle.spans.proofs.Computed.{kept_of, kept_of_is}
use Rattle.corners.specs.Corners.{cyrus_beck_refusal, blank_answer, CornerClipped, CyrusBeck}
use Rattle.corners.specs.Edges.{edge_conditions}
use Rattle.corners.specs.declared.CornerAnswer.{CornerAnswer}
use Rattle.corners.proofs.Answers.{clip_missed, clip_kept, one_corner_answer}
use Rattle.corners.proofs.Edges.{first_all, edge_within}
use Rattle.corners.proofs.Refusals.{nothing_refused}

unfoldable pub clipped_of : List Point → Stroke → CornerAnswer
clipped_of cs s =
    let r = kept_of (edge_conditions cs s) in
    let f = r.span.first in
    let l = r.span.last in
    when less_than l f then blank_answer none else record {
      number = 0;
      place = 0;
      kept = true;
      t0 = lowest_of f.num f.den;
      t1 = lowest_of l.num l.den;
      side0 = r.side0;
      side1 = r.side1;
    }

clipped_of_is : {zs : List ℤ} {s : Stroke} → CornersOnTable zs → StrokeOnTable s → CornerClipped (corners_of zs) s (clipped_of (corners_of zs) s)
unfolding clipped_of
clipped_of_is {zs} {s} hc hs =
    let cs = corners_of zs in
    let r = kept_of (edge_conditions cs s) in
    let g : KeptBy largest (edge_conditions cs s) r = kept_of_is (omega arith) (edge_conditions cs s) (first_all cs s (length cs) (λ k h. edge_within hc k h hs)) in
    by-test (less_than r.span.last r.span.first) (CornerClipped cs s)
    (λ e. clip_missed cs s g e)
    (λ e. clip_kept cs s g e (lowest_of_is _ g.span.proper.den0) (lowest_of_is _ g.span.proper.den1))

unfoldable pub answer_of : List ℤ → Stroke → CornerAnswer
answer_of zs s = when eqb (cyrus_beck_refusal zs s).number 0 then clipped_of (corners_of zs) s else blank_answer (cyrus_beck_refusal zs s)

pub answer_of_is : (zs : List ℤ) (s : Stroke) → CyrusBeck zs s (answer_of zs s)
unfolding answer_of
answer_of_is zs s =
    by-test (eqb (cyrus_beck_refusal zs s).number 0) (CyrusBeck zs s)
    (λ e.
    let z = eqb-true (cyrus_beck_refusal zs s).number 0 e in
    let p = nothing_refused zs s z in
    record { refused = λ n. absurd (n z); done = λ _. clipped_of_is p.0 p.1 })
    (λ e. record { refused = λ _. refl; done = λ z. absurd (eqb-false (cyrus_beck_refusal zs s).number 0 e z) })

pub computed : {zs : List ℤ} {s : Stroke} {a : CornerAnswer} → CyrusBeck zs s a → a ≡ answer_of zs s
computed {zs} {s} {a} p = one_corner_answer zs s a (answer_of zs s) p (answer_of_is zs s)
