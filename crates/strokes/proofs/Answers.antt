-- The answers where nothing of a stroke is left, all of it, or the part that a span of kept fractions leaves.
use mathlib.Core.Path.{refl}
use native.Mathlib.Omega.{arith}
use lib.IntN.{ℤ, ◌*ℤ◌}
use lib.Signed.{◌≤ℤ◌, ◌<ℤ◌}
use Rattle.whole.specs.Within.{Within}
use Rattle.whole.proofs.Comparisons.{ff_tt, tt_ff}
use Rattle.whole.proofs.Order.{zarith, ≤_trans}
use Rattle.fraction.specs.declared.Fraction.{Fraction}
use Rattle.fraction.specs.Fraction.{LowestOf}
use Rattle.grid.specs.declared.Stroke.{Stroke}
use Rattle.grid.specs.declared.Window.{Window}
use Rattle.grid.specs.Refusals.{none}
use Rattle.grid.specs.Table.{farthest, WindowOnTable, StrokeOnTable}
use Rattle.spans.specs.declared.Span.{Span}
use Rattle.spans.specs.Parts.{Time, zeroth, unit}
use Rattle.spans.specs.Sides.{no_side, StartSide, EndSide}
use Rattle.spans.specs.Spans.{SpanOf}
use Rattle.spans.proofs.Cutting.{in_time}
use Rattle.spans.proofs.Parts.{all, all_proper, all_sized, in_all, part_missed, none_left, span_part, lowest_zeroth, lowest_unit}
use Rattle.spans.proofs.Sides.{start_lowest, end_lowest, own_start, own_end}
use Rattle.strokes.specs.Sides.{conditions}
use Rattle.strokes.specs.Strokes.{Keeps, PointAt, Clipped, blank}
use Rattle.strokes.specs.Workers.{EndsInside, kept_answer, whole_answer}
use Rattle.strokes.specs.declared.End.{End}
use Rattle.strokes.proofs.Coordinates.{all_between}
use Rattle.strokes.proofs.Points.{point_start, point_finish, point_lowest}

module _ {w : Window} {s : Stroke} where
  pub nothing_kept : ((n d : ℤ) → Keeps w s n d → ⊥) → Clipped w s (blank none)
  nothing_kept never = record {
    number = refl;
    place = refl;
    part = part_missed never;
    start = λ e. absurd (ff_tt e);
    finish = λ e. absurd (ff_tt e);
    start_side = λ e. absurd (ff_tt e);
    end_side = λ e. absurd (ff_tt e);
    missed = λ e. refl;
  }

  -- ---- plainly in the window, and so on the table
  pub inside_always : EndsInside w s → (n d : ℤ) → Time n d → Keeps w s n d
  inside_always k n d t = record {
    time = t;
    x = all_between k.x.a_low k.x.b_low k.x.a_high k.x.b_high t;
    y = all_between k.y.a_low k.y.b_low k.y.a_high k.y.b_high t;
  }

  pub inside_on_table : WindowOnTable w → EndsInside w s → StrokeOnTable s
  inside_on_table h k = record {
    x1 = inner h.left h.right k.x.a_low k.x.a_high;
    y1 = inner h.bottom h.top k.y.a_low k.y.a_high;
    x2 = inner h.left h.right k.x.b_low k.x.b_high;
    y2 = inner h.bottom h.top k.y.b_low k.y.b_high;
  }
    where
      inner : {lo hi z : ℤ} → Within farthest lo → Within farthest hi → lo ≤ℤ z → z ≤ℤ hi → Within farthest z
      inner l u p q = record { low = ≤_trans l.low p; high = ≤_trans q u.high }

  -- from its start to its end
  pub always_kept : ((n d : ℤ) → Time n d → Keeps w s n d) → SpanOf 32766 (Keeps w s) all
  always_kept always = record {
    proper = all_proper;
    sized = all_sized 32766 (omega arith);
    stays = λ n d k. in_all k.time;
    keeps = λ n d h i. always n d (in_time all_proper h i);
  }

  -- ---- what a span leaves
  module _ {r : Span} (g : SpanOf 32766 (Keeps w s) r) where
    pub span_missed : (r.last.num *ℤ r.first.den) <ℤ (r.first.num *ℤ r.last.den) → (n d : ℤ) → Keeps w s n d → ⊥
    span_missed l = none_left g (λ n d k. k.time.den) l

    module _ (l : (r.first.num *ℤ r.last.den) ≤ℤ (r.last.num *ℤ r.first.den)) where
      pub span_kept : (a b : End) {t u : Fraction} → PointAt s r.first a.x a.y → PointAt s r.last b.x b.y
          → StartSide (conditions w s) r.first a.side → EndSide (conditions w s) r.last b.side
          → LowestOf r.first.num r.first.den t → LowestOf r.last.num r.last.den u → Clipped w s (kept_answer a b t u)
      span_kept e f a b i o p q = record {
        number = refl;
        place = refl;
        part = span_part g l p q;
        start = λ e. point_lowest g.proper.den0 p a;
        finish = λ e. point_lowest g.proper.den1 q b;
        start_side = λ e. start_lowest g.proper.den0 p i;
        end_side = λ e. end_lowest g.proper.den1 q o;
        missed = λ e. absurd (tt_ff e);
      }

  -- ---- all of it
  pub whole_answer_lem : ((n d : ℤ) → Time n d → Keeps w s n d) → Clipped w s (whole_answer s)
  whole_answer_lem always =
      span_kept (always_kept always) (omega zarith)
      (record { t = zeroth; x = s.x1; y = s.y1; side = no_side }) (record { t = unit; x = s.x2; y = s.y2; side = no_side })
      (point_start {f = zeroth} (omega zarith) refl) (point_finish {f = unit} (omega zarith) refl) own_start own_end
      (lowest_zeroth refl) (lowest_unit refl)
