-- What a stroke call on a rectangle promises, whatever rule it runs.
--   KeepsCoordinate lo hi a b n d   the coordinate at the fraction n/d of the way from a to b is from lo to hi
--   Keeps w s n d          n/d is a fraction from 0 to 1, and the stroke's point there lies in the closed window
--   stroke_call_refusal w s  what the call refuses: 2, 3, then 6
--   blank r                refused by r, or missed where r is none: not kept, fractions 0/1, points 0, no sides
--   PointAt s f x y        (x, y) is the stroke's point at the fraction f, each coordinate rounded to the grid
--   Clipped w s a          a is right for a window and a stroke in which nothing is refused
--   Clipping w s a         what `strokes::liang_barsky` promises, and `cross_product::cross_product` too: a is right, refusals included
use Rattle.std.specs.Prelude.{◌≡◌, true, false, [], ◌∷◌, ℤ, pos, ◌*ℤ◌, ◌≤ℤ◌}
use Rattle.fraction.specs.declared.Fraction.{Fraction}
use Rattle.fraction.specs.Rounding.{along, Rounded}
use Rattle.grid.specs.declared.Refusal.{Refusal}
use Rattle.grid.specs.declared.Stroke.{Stroke}
use Rattle.grid.specs.declared.Window.{Window}
use Rattle.grid.specs.Refusals.{none, first, window_refusal, stroke_refusal}
use Rattle.spans.specs.Parts.{Time, Part, zeroth}
use Rattle.spans.specs.Sides.{no_side, StartSide, EndSide}
use Rattle.strokes.specs.Sides.{conditions}
use Rattle.strokes.specs.declared.StrokeAnswer.{StrokeAnswer}

pub record KeepsCoordinate (lo hi a b n d : ℤ) : Type 0 where
  pub above : (lo *ℤ d) ≤ℤ along a b n d
  pub below : along a b n d ≤ℤ (hi *ℤ d)

pub record Keeps (w : Window) (s : Stroke) (n d : ℤ) : Type 0 where
  pub time : Time n d
  pub x : KeepsCoordinate w.left w.right s.x1 s.x2 n d
  pub y : KeepsCoordinate w.bottom w.top s.y1 s.y2 n d

unfoldable pub stroke_call_refusal : Window → Stroke → Refusal
stroke_call_refusal w s = first (window_refusal w ∷ stroke_refusal s ∷ [])

abbrev pub blank : Refusal → StrokeAnswer
blank r = record {
  number = r.number;
  place = r.place;
  kept = false;
  t0 = zeroth;
  t1 = zeroth;
  ax = pos 0;
  ay = pos 0;
  bx = pos 0;
  by = pos 0;
  side0 = no_side;
  side1 = no_side;
}

pub record PointAt (s : Stroke) (f : Fraction) (x y : ℤ) : Type 0 where
  pub across : Rounded (along s.x1 s.x2 f.num f.den) f.den x
  pub up : Rounded (along s.y1 s.y2 f.num f.den) f.den y

pub record Clipped (w : Window) (s : Stroke) (a : StrokeAnswer) : Type 0 where
  pub number : a.number ≡ 0
  pub place : a.place ≡ 0
  pub part : Part (Keeps w s) a.kept a.t0 a.t1
  pub start : a.kept ≡ true → PointAt s a.t0 a.ax a.ay
  pub finish : a.kept ≡ true → PointAt s a.t1 a.bx a.by
  pub start_side : a.kept ≡ true → StartSide (conditions w s) a.t0 a.side0
  pub end_side : a.kept ≡ true → EndSide (conditions w s) a.t1 a.side1
  pub missed : a.kept ≡ false → a ≡ blank none

-- What is kept is said of points, and its sides of their conditions p·t ≤ q, not of a rule's steps: so every engine can promise it, and then they agree.
pub record Clipping (w : Window) (s : Stroke) (a : StrokeAnswer) : Type 0 where
  pub refused : ((stroke_call_refusal w s).number ≡ 0 → ⊥) → a ≡ blank (stroke_call_refusal w s)
  pub done : (stroke_call_refusal w s).number ≡ 0 → Clipped w s a
