-- What the four corners say of the answer, over every window and every stroke that no stroke call refuses; proved in proofs/ByCorners.antt.
-- That the answer is that of `strokes::liang_barsky`, refusals included, is `OneStrokeAnswer`: both calls promise `Clipping`.
--   BothBeyond w s       the two ends of the stroke lie beyond one side of the window
--   MissedByCorners      a stroke is missed exactly where its two ends lie beyond one side, or all four corners lie on one side of its line
--   FirstCrossed w s a   a side that a names for t0 is the first where the line comes in, one that it names for t1 the first where it goes out
--   SidesByCorners       so it is of every answer
use Rattle.std.specs.Prelude.{◌≡◌, false, ◌⊎◌, ◌↔◌, ◌<ℤ◌}
use Rattle.grid.specs.declared.Stroke.{Stroke}
use Rattle.grid.specs.declared.Window.{Window}
use Rattle.spans.specs.Sides.{FirstOf, no_side}
use Rattle.strokes.specs.declared.StrokeAnswer.{StrokeAnswer}
use Rattle.strokes.specs.Sides.{four_sides}
use Rattle.strokes.specs.Strokes.{Clipping}
use Rattle.crossed_sides.specs.Line.{ComesIn, GoesOut, OneSide}

pub data BothBeyond (w : Window) (s : Stroke) : Type 0 where
  to_left : s.x1 <ℤ w.left → s.x2 <ℤ w.left → BothBeyond w s
  to_right : w.right <ℤ s.x1 → w.right <ℤ s.x2 → BothBeyond w s
  to_bottom : s.y1 <ℤ w.bottom → s.y2 <ℤ w.bottom → BothBeyond w s
  to_top : w.top <ℤ s.y1 → w.top <ℤ s.y2 → BothBeyond w s

abbrev pub MissedByCorners : Type 0
MissedByCorners = (w : Window) (s : Stroke) (a : StrokeAnswer) → Clipping w s a → a.number ≡ 0
    → (a.kept ≡ false) ↔ (BothBeyond w s ⊎ OneSide w s)

pub record FirstCrossed (w : Window) (s : Stroke) (a : StrokeAnswer) : Type 0 where
  pub entry : (a.side0 ≡ no_side → ⊥) → FirstOf (ComesIn w s) four_sides a.side0
  pub exit : (a.side1 ≡ no_side → ⊥) → FirstOf (GoesOut w s) four_sides a.side1

abbrev pub SidesByCorners : Type 0
SidesByCorners = (w : Window) (s : Stroke) (a : StrokeAnswer) → Clipping w s a → a.number ≡ 0 → FirstCrossed w s a
