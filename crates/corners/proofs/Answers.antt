-- From the span of the kept fractions to the answer; and two answers that are right are equal.
use mathlib.Core.Path.{◌≡◌, refl, sym, ap, ◌∙◌, subst}
use mathlib.Core.Bool.{Bool, true, false}
use mathlib.Core.List.{List}
use Prim.Native.Nat.{ℕ}
use native.Mathlib.Omega.{arith}
use lib.ListN.{length}
use Rattle.whole.proofs.Comparisons.{ff_tt, tt_ff}
use Rattle.fraction.specs.declared.Fraction.{Fraction}
use Rattle.fraction.specs.Fraction.{LowestOf, less_than}
use Rattle.fraction.proofs.Comparing.{less_taken, less_left}
use Rattle.grid.specs.Refusals.{none}
use Rattle.grid.specs.declared.Stroke.{Stroke}
use Rattle.grid.proofs.Refusals.{done_or_refused}
use Rattle.rings.specs.Points.{Point}
use Rattle.convex.specs.Corners.{corners_of}
use Rattle.convex.proofs.Places.{count}
use Rattle.spans.specs.declared.SidedSpan.{SidedSpan}
use Rattle.spans.specs.Parts.{Time}
use Rattle.spans.specs.Sides.{StartSide, EndSide, OwnEnds}
use Rattle.spans.specs.Spans.{SpanOf, SomeLeft, KeptBy}
use Rattle.spans.proofs.Cutting.{in_time}
use Rattle.spans.proofs.Parts.{part_unique, part_missed, none_left, in_first, in_last, span_part}
use Rattle.spans.proofs.Sides.{start_lowest, end_lowest, start_unique, end_unique, own_ends, no_ends}
use Rattle.corners.specs.Edges.{edge_conditions}
use Rattle.corners.specs.Corners.{cyrus_beck_refusal, KeepsIn, blank_answer, CornerClipped}
use Rattle.corners.specs.Laws.{OneCornerAnswer, EdgeOrOwnEnd}
use Rattle.corners.specs.declared.CornerAnswer.{CornerAnswer}
use Rattle.corners.proofs.Edges.{every_edge, edges_count}
use Rattle.corners.proofs.Refusals.{nothing_refused}

-- what meets the condition of every edge is what is kept
kept_span : {A : ℕ} (cs : List Point) (s : Stroke) {r : SidedSpan} → KeptBy A (edge_conditions cs s) r → SpanOf A (KeepsIn cs s) r.span
kept_span cs s g = record {
  proper = g.span.proper;
  sized = g.span.sized;
  stays = λ n d k. g.span.stays n d ((every_edge cs s n d).0 k);
  keeps = λ n d h i. (every_edge cs s n d).1 (g.span.keeps n d h i);
}

module _ {A : ℕ} (cs : List Point) (s : Stroke) {r : SidedSpan} (g : KeptBy A (edge_conditions cs s) r) where
  pub clip_missed : less_than r.span.last r.span.first ≡ true → CornerClipped cs s (blank_answer none)
  clip_missed e = record {
    number = refl;
    place = refl;
    part = part_missed (none_left (kept_span cs s g) (λ n d k. k.time.den) (less_taken r.span.last r.span.first e));
    start_side = λ e. absurd (ff_tt e);
    end_side = λ e. absurd (ff_tt e);
    missed = λ _. refl;
  }

  module _ (e : less_than r.span.last r.span.first ≡ false) where
    some : SomeLeft r.span
    some = less_left r.span.last r.span.first e

    pub first_time : Time r.span.first.num r.span.first.den
    first_time = in_time g.span.proper g.span.proper.den0 (in_first g.span some)

    pub last_time : Time r.span.last.num r.span.last.den
    last_time = in_time g.span.proper g.span.proper.den1 (in_last g.span some)

    pub clip_kept : {f l : Fraction} → LowestOf r.span.first.num r.span.first.den f → LowestOf r.span.last.num r.span.last.den l
        → CornerClipped cs s (record { number = 0; place = 0; kept = true; t0 = f; t1 = l; side0 = r.side0; side1 = r.side1 })
    clip_kept p q = record {
      number = refl;
      place = refl;
      part = span_part (kept_span cs s g) some p q;
      start_side = λ _. start_lowest g.span.proper.den0 p (g.start some);
      end_side = λ _. end_lowest g.span.proper.den1 q (g.end some);
      missed = λ e. absurd (tt_ff e);
    }

pub clip_unique : {cs : List Point} {s : Stroke} {a b : CornerAnswer} → CornerClipped cs s a → CornerClipped cs s b → a ≡ b
clip_unique {cs} {s} {a} {b} p q = go a.kept refl
  where
    same : (a.kept ≡ b.kept) × (a.t0 ≡ b.t0) × (a.t1 ≡ b.t1)
    same = part_unique p.part q.part

    go : (k : Bool) → a.kept ≡ k → a ≡ b
    go false e = p.missed e ∙ sym (q.missed (sym same.0 ∙ e))
    go true e =
        let f = sym same.0 ∙ e in
        let in_by = start_unique (p.start_side e) (subst (λ (t : Fraction). StartSide (edge_conditions cs s) t b.side0) (sym same.1) (q.start_side f)) in
        let out_by = end_unique (p.end_side e) (subst (λ (t : Fraction). EndSide (edge_conditions cs s) t b.side1) (sym same.2) (q.end_side f)) in
        let number = p.number ∙ sym q.number in
        let place = p.place ∙ sym q.place in
        λ i. record { number = number i; place = place i; kept = same.0 i; t0 = same.1 i; t1 = same.2 i; side0 = in_by i; side1 = out_by i }

pub one_corner_answer : OneCornerAnswer
one_corner_answer zs s a b p q =
    done_or_refused (cyrus_beck_refusal zs s) (λ z. clip_unique (p.done z) (q.done z)) (λ n. p.refused n ∙ sym (q.refused n))

pub edge_or_own_end : EdgeOrOwnEnd
edge_or_own_end zs s a p =
    done_or_refused (cyrus_beck_refusal zs s)
    (λ z.
    let c = p.done z in
    let n = edges_count (corners_of zs) s (length (corners_of zs)) in
    subst (λ (n : ℕ). OwnEnds n a.kept a.t0 a.t1 a.side0 a.side1) n
    (own_ends c.part (omega (arith, n, count zs, (nothing_refused zs s z).0.few)) c.start_side c.end_side
    (λ e. (ap (λ (b : CornerAnswer). b.side0) (c.missed e), ap (λ (b : CornerAnswer). b.side1) (c.missed e)))))
    (λ n.
    subst (λ (b : CornerAnswer). OwnEnds (length (corners_of zs)) b.kept b.t0 b.t1 b.side0 b.side1) (sym (p.refused n))
    no_ends)
