-- What the corners say of an answer: whether it is missed (Missing) and which sides it names (Naming).
use mathlib.Core.Path.{◌≡◌, refl, sym, ap, ◌∙◌}
use mathlib.Core.Bool.{Bool, true, false}
use mathlib.Core.Logic.{⊎_elim}
use lib.IntN.{ℤ}
use Rattle.whole.proofs.Comparisons.{tt_ff}
use Rattle.grid.specs.declared.Stroke.{Stroke}
use Rattle.grid.specs.declared.Window.{Window}
use Rattle.grid.specs.Table.{WindowOnTable, StrokeOnTable}
use Rattle.grid.proofs.Refusals.{done_or_refused, window_on_table, stroke_on_table}
use Rattle.strokes.specs.declared.StrokeAnswer.{StrokeAnswer}
use Rattle.strokes.specs.Strokes.{Keeps, Clipped, Clipping, stroke_call_refusal}
use Rattle.strokes.proofs.Refusing.{nothing_refused}
use Rattle.strokes.proofs.Sides.{keeps_meets}
use Rattle.crossed_sides.proofs.Missed.{one_side_missed}
use Rattle.cross_product.specs.Laws.{MissedByCorners, FirstCrossed, SidesByCorners}
use Rattle.cross_product.proofs.Missing.{beyond_missed, missed_there}
use Rattle.cross_product.proofs.Naming.{start_crossed, end_crossed}

-- what was not refused is right
done : {w : Window} {s : Stroke} {a : StrokeAnswer} → Clipping w s a → a.number ≡ 0 → (WindowOnTable w × StrokeOnTable s) × Clipped w s a
done {w} {s} p e = done_or_refused (stroke_call_refusal w s)
    (λ z. let g = nothing_refused w s z in ((window_on_table w g.0, stroke_on_table s g.1), p.done z))
    (λ n. absurd (n (ap (λ (b : StrokeAnswer). b.number) (sym (p.refused n)) ∙ e)))

pub missed_by_corners : MissedByCorners
missed_by_corners w s a p e = let g = done p e in (
  λ m. missed_there g.0.0 g.0.1 (λ n d k. tt_ff (sym (g.1.part.keeps n d k) ∙ m)),
  λ h. not_kept (⊎_elim beyond_missed (one_side_missed w s) h) g.1,
)
  where
    not_kept : ((n d : ℤ) → Keeps w s n d → ⊥) → Clipped w s a → a.kept ≡ false
    not_kept never c = go a.kept refl
      where
        go : (t : Bool) → a.kept ≡ t → a.kept ≡ false
        go true k = let f = c.part.first k in absurd (never a.t0.num a.t0.den f.keeps)
        go false k = k

pub sides_by_corners : SidesByCorners
sides_by_corners w s a p e = let g = done p e in go g.0.0 g.1 a.kept refl
  where
    go : WindowOnTable w → Clipped w s a → (t : Bool) → a.kept ≡ t → FirstCrossed w s a
    go on c true k = record {
      entry = λ n. start_crossed w s on a.t0 (keeps_meets (c.part.first k).keeps) ((c.start_side k).fixed (λ z. n ((c.start_side k).remains z)));
      exit = λ n. end_crossed w s on a.t1 (keeps_meets (c.part.last k).keeps) ((c.end_side k).fixed (λ z. n ((c.end_side k).remains z)));
    }
    go on c false k = record {
      entry = λ n. absurd (n (ap (λ (b : StrokeAnswer). b.side0) (c.missed k)));
      exit = λ n. absurd (n (ap (λ (b : StrokeAnswer). b.side1) (c.missed k)));
    }
