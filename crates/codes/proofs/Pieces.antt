-- A piece of a stroke as the code has it: its decision is by the trailing zeros of a code, and what a shortening leaves is a piece again.
use mathlib.Core.Path.{◌≡◌, refl, sym, ap, subst, ◌∙◌}
use mathlib.Core.List.{[], ◌∷◌}
use Prim.Native.Nat.{ℕ, ◌≤◌, ◌<◌}
use native.Mathlib.Omega.{arith}
use lib.Bits.{bit_or}
use lib.IntN.{ℤ, pos}
use lib.Signed.{lt_z}
use Rattle.whole.proofs.Comparisons.{diff_test}
use Rattle.whole.specs.Choice.{when◌then◌else◌}
use Rattle.whole.specs.Within.{Within}
use Rattle.whole.proofs.Expressions.{con, ◌⊕◌, ◌⊖◌, ◌⊗◌, x0, x1, x2}
use Rattle.whole.proofs.Order.{zarith}
use Rattle.whole.proofs.Polynomials.{ring}
use Rattle.fraction.specs.declared.Fraction.{Fraction}
use Rattle.grid.specs.declared.Stroke.{Stroke}
use Rattle.grid.specs.declared.Window.{Window}
use Rattle.grid.specs.Refusals.{none}
use Rattle.grid.specs.Sides.{Side, place_of, side_at}
use Rattle.spans.specs.Parts.{zeroth, unit}
use Rattle.spans.specs.Sides.{no_side, StartSide, EndSide}
use Rattle.spans.proofs.Cutting.{one_within}
use Rattle.spans.proofs.Parts.{lowest_zeroth, lowest_unit}
use Rattle.strokes.specs.Sides.{conditions}
use Rattle.strokes.specs.Strokes.{blank}
use Rattle.strokes.specs.Workers.{whole_answer}
use Rattle.strokes.proofs.Answers.{nothing_kept, span_kept}
use Rattle.strokes.proofs.Points.{point_start, point_finish}
use Rattle.codes.specs.Codes.{code, keep, missed, shorten_start, shorten_end, lowest_bit, decision}
use Rattle.codes.specs.Steps.{decided, start, end, Run, kept, lost}
use Rattle.codes.specs.Workers.{outside_of, marks_of, end_code, PartOfWay, Apart, StrokeMeets, PieceOf, KeptFrom, Finished}
use Rattle.codes.specs.declared.CountedAnswer.{CountedAnswer}
use Rattle.codes.specs.declared.Piece.{Piece}
use Rattle.codes.proofs.Crossings.{apart}
use Rattle.codes.proofs.Decided.{code_small, start_side, end_side, start_place, end_place, start_beyond, end_beyond}
use Rattle.codes.proofs.Named.{start_named, end_named}
use Rattle.codes.proofs.Shortenings.{Ordered, first_ordered, first_time, last_time, shortened_ordered, Reached, reached_keep, reached_missed, reached_end}

part_ordered : {f g : Fraction} → PartOfWay f g → Ordered f g
part_ordered h = record {
  proper = record { low = h.start.time.low; high = h.end.time.high; den0 = h.start.time.den; den1 = h.end.time.den };
  order = h.order;
}

ordered_part : {f g : Fraction} → Ordered f g → Within 32766 f.den → Within 32766 g.den → PartOfWay f g
ordered_part o wf wg = record { start = record { time = first_time o; small = wf }; end = record { time = last_time o; small = wg }; order = o.order }

module _ {w : Window} {s : Stroke} {p : Piece} (h : PieceOf w s p) where
  abbrev f : Fraction
  f = p.start.t

  abbrev g : Fraction
  g = p.end.t

  pub small_a : p.start.code < 16
  small_a = subst (λ (n : ℕ). n < 16) (sym h.a) (code_small w s f)

  pub small_b : p.end.code < 16
  small_b = subst (λ (n : ℕ). n < 16) (sym h.b) (code_small w s g)

  pub decided_is : decision p.start.code p.end.code ≡ decided w s f g
  decided_is = λ i. decision (h.a i) (h.b i)

  module _ {d : ℕ} (e : d ≡ decided w s f g) where
    abbrev own : d ≡ decision p.start.code p.end.code
    own = e ∙ sym decided_is

    pub decided_start : 2 ≤ d → d < 6 → decided w s f g ≡ shorten_start (place_of (side_at (lowest_bit p.start.code)))
    decided_start l u = sym decided_is ∙ start_side small_a small_b (subst (λ (n : ℕ). 2 ≤ n) own l) (subst (λ (n : ℕ). n < 6) own u)

    pub place_start : 2 ≤ d → d < 6 → place_of (side_at (lowest_bit p.start.code)) ≡ lowest_bit p.start.code
    place_start l u = start_place small_a small_b (subst (λ (n : ℕ). 2 ≤ n) own l) (subst (λ (n : ℕ). n < 6) own u)

    pub place_end : 6 ≤ d → place_of (side_at (lowest_bit p.end.code)) ≡ lowest_bit p.end.code
    place_end l = end_place small_a small_b (subst (λ (n : ℕ). 6 ≤ n) own l)

    pub decided_end : 6 ≤ d → decided w s f g ≡ shorten_end (place_of (side_at (lowest_bit p.end.code)))
    decided_end l = sym decided_is ∙ end_side small_a small_b (subst (λ (n : ℕ). 6 ≤ n) own l)

  module _ (k : Side) (e : decided w s f g ≡ shorten_start (place_of k)) where
    pub start_apart : Apart s k
    start_apart = let b = start_beyond w s f g k e in apart w s f g k h.part.start.time.den h.part.end.time.den b.0 b.1

    pub start_fixed : {c : Fraction} → StrokeMeets w s k c → StartSide (conditions w s) c (place_of k)
    start_fixed {c} m = start_named w s c k (part_ordered h.part) m.line e

    pub start_part : {c : Fraction} → StrokeMeets w s k c → PartOfWay c g
    start_part m = ordered_part (shortened_ordered (part_ordered h.part) (start k e m.line)) m.small h.part.end.small

  module _ (k : Side) (e : decided w s f g ≡ shorten_end (place_of k)) where
    pub end_apart : Apart s k
    end_apart = let b = end_beyond w s f g k e in apart w s g f k h.part.end.time.den h.part.start.time.den b.1 b.0

    pub end_fixed : {c : Fraction} → StrokeMeets w s k c → EndSide (conditions w s) c (place_of k)
    end_fixed {c} m = end_named w s c k (part_ordered h.part) m.line e

    pub end_part : {c : Fraction} → StrokeMeets w s k c → PartOfWay f c
    end_part m = ordered_part (shortened_ordered (part_ordered h.part) (end k e m.line)) h.part.start.small m.small

-- ---- the codes of the stroke's own ends
module _ (lo hi a b : ℤ) (under over : ℕ) where
  marks_start : marks_of lo hi a under over ≡ outside_of lo hi a b zeroth under over
  marks_start =
      let low = diff_test a lo ∙ ap (lt_z (pos 0)) (ring (lo ∷ a ∷ b ∷ []) (x0 ⊖ x1) (x0 ⊗ con (pos 1) ⊖ (x1 ⊗ con (pos 1) ⊕ con (pos 0) ⊗ (x2 ⊖ x1))) tt) in
      let high = diff_test hi a ∙ ap (lt_z (pos 0)) (ring (hi ∷ a ∷ b ∷ []) (x1 ⊖ x0) (x1 ⊗ con (pos 1) ⊕ con (pos 0) ⊗ (x2 ⊖ x1) ⊖ x0 ⊗ con (pos 1)) tt) in
      λ i. bit_or (when low i then under else 0) (when high i then over else 0)

  marks_end : marks_of lo hi b under over ≡ outside_of lo hi a b unit under over
  marks_end =
      let low = diff_test b lo ∙ ap (lt_z (pos 0)) (ring (lo ∷ a ∷ b ∷ []) (x0 ⊖ x2) (x0 ⊗ con (pos 1) ⊖ (x1 ⊗ con (pos 1) ⊕ con (pos 1) ⊗ (x2 ⊖ x1))) tt) in
      let high = diff_test hi b ∙ ap (lt_z (pos 0)) (ring (hi ∷ a ∷ b ∷ []) (x2 ⊖ x0) (x1 ⊗ con (pos 1) ⊕ con (pos 1) ⊗ (x2 ⊖ x1) ⊖ x0 ⊗ con (pos 1)) tt) in
      λ i. bit_or (when low i then under else 0) (when high i then over else 0)

module _ (w : Window) (s : Stroke) where
  pub start_code : end_code w s.x1 s.y1 ≡ code w s zeroth
  unfolding code
  start_code = λ i. bit_or (marks_start w.left w.right s.x1 s.x2 1 2 i) (marks_start w.bottom w.top s.y1 s.y2 4 8 i)

  pub end_code_lem : end_code w s.x2 s.y2 ≡ code w s unit
  unfolding code
  end_code_lem = λ i. bit_or (marks_end w.left w.right s.x1 s.x2 1 2 i) (marks_end w.bottom w.top s.y1 s.y2 4 8 i)

-- ---- the whole stroke, and the two ends of a run
pub whole_part : PartOfWay zeroth unit
whole_part = ordered_part first_ordered (one_within (omega arith)) (one_within (omega arith))

-- with the codes of its ends
abbrev pub whole_piece : ℕ → ℕ → Piece
whole_piece a b = record { start = record { t = zeroth; code = a; side = no_side }; end = record { t = unit; code = b; side = no_side } }

pub whole_kept : {s : Stroke} {q : CountedAnswer} (a b : ℕ) → q ≡ record { answer = whole_answer s; shortenings = 0 } → KeptFrom s (whole_piece a b) 0 q
whole_kept {s} a b e = subst (KeptFrom s (whole_piece a b) 0) (sym e) (record {
  clipped = λ w g i o.
      span_kept g (omega zarith) (record { t = zeroth; x = s.x1; y = s.y1; side = no_side }) (record { t = unit; x = s.x2; y = s.y2; side = no_side })
      (point_start {f = zeroth} (omega zarith) refl) (point_finish {f = unit} (omega zarith) refl) i o (lowest_zeroth refl) (lowest_unit refl);
  count = refl;
})

module _ {w : Window} {s : Stroke} {p : Piece} {n : ℕ} {q : CountedAnswer} (h : PieceOf w s p) (r : Reached w s p.start.t p.end.t n) where
  pub finished_kept : decided w s p.start.t p.end.t ≡ keep → KeptFrom s p n q → Finished w s q
  finished_kept e k = record {
    clipped = k.clipped w (reached_keep r e h.part.start.small h.part.end.small) h.start_side h.end_side;
    run = subst (Run w s zeroth unit) (sym k.count) (reached_end r (kept e));
  }

  pub finished_missed : decided w s p.start.t p.end.t ≡ missed → q ≡ record { answer = blank none; shortenings = n } → Finished w s q
  finished_missed e b = subst (Finished w s) (sym b) (record { clipped = nothing_kept (reached_missed r e); run = reached_end r (lost e) })
