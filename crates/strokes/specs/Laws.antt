-- Laws of the stroke calls on a rectangle, over every window and every stroke; proved in proofs/Unique.antt,
-- proofs/Laws.antt and proofs/Between.antt.
--   OneStrokeAnswer   two answers that are right for one window and one stroke are equal
--   InClosedWindow w x y   the grid point (x, y) lies in the window or on its border
--   StaysInside       the rounded points of a kept stroke never leave the window
--   SideOrOwnEnd      the side of t0 is 255 exactly where t0 is 0/1, and that of t1 exactly where t1 is 1/1 or nothing is kept; else it is one of 0 to 3
--   DotKept           a stroke of no length inside, or on the border, is kept from 0/1 to 1/1
--   FourConditions    a fraction from 0 to 1 is kept exactly where it satisfies p·t ≤ q for each of the four sides
--   InPart a n d      n/d is a fraction of the part that the answer a gives: the stroke is kept, and n/d is from t0 to t1
--   PartIsInside      the fractions of the part are those at which the stroke's point lies in the closed window
use Rattle.std.specs.Prelude.{◌≡◌, true, ◌↔◌, ℤ, pos, ◌≤ℤ◌, ◌<ℤ◌}
use Rattle.grid.specs.declared.Stroke.{Stroke}
use Rattle.grid.specs.declared.Window.{Window}
use Rattle.spans.specs.Parts.{zeroth, unit}
use Rattle.spans.specs.Sides.{MeetsAll, OwnEnds}
use Rattle.spans.specs.Spans.{InSpan}
use Rattle.strokes.specs.Sides.{conditions}
use Rattle.strokes.specs.Strokes.{Keeps, Clipping}
use Rattle.strokes.specs.declared.StrokeAnswer.{StrokeAnswer}

abbrev pub OneStrokeAnswer : Type 0
OneStrokeAnswer = (w : Window) (s : Stroke) (a b : StrokeAnswer) → Clipping w s a → Clipping w s b → a ≡ b

pub record InClosedWindow (w : Window) (x y : ℤ) : Type 0 where
  pub left : w.left ≤ℤ x
  pub right : x ≤ℤ w.right
  pub bottom : w.bottom ≤ℤ y
  pub top : y ≤ℤ w.top

abbrev pub StaysInside : Type 0
StaysInside = (w : Window) (s : Stroke) (a : StrokeAnswer) → Clipping w s a → a.kept ≡ true
    → InClosedWindow w a.ax a.ay × InClosedWindow w a.bx a.by

abbrev pub SideOrOwnEnd : Type 0
SideOrOwnEnd = (w : Window) (s : Stroke) (a : StrokeAnswer) → Clipping w s a → OwnEnds 4 a.kept a.t0 a.t1 a.side0 a.side1

abbrev pub DotKept : Type 0
DotKept = (w : Window) (s : Stroke) (a : StrokeAnswer) → Clipping w s a → a.number ≡ 0 → s.x1 ≡ s.x2 → s.y1 ≡ s.y2
    → InClosedWindow w s.x1 s.y1 → (a.kept ≡ true) × (a.t0 ≡ zeroth) × (a.t1 ≡ unit)

-- the rules' own words for what is kept; `Keeps` says the same of the point's two coordinates
abbrev pub FourConditions : Type 0
FourConditions = (w : Window) (s : Stroke) (n d : ℤ) → Keeps w s n d ↔ MeetsAll (conditions w s) n d

pub record InPart (a : StrokeAnswer) (n d : ℤ) : Type 0 where
  pub kept : a.kept ≡ true
  pub den : pos 0 <ℤ d
  pub between : InSpan (record { first = a.t0; last = a.t1 }) n d

abbrev pub PartIsInside : Type 0
PartIsInside = (w : Window) (s : Stroke) (a : StrokeAnswer) → Clipping w s a → a.number ≡ 0 → (n d : ℤ) → InPart a n d ↔ Keeps w s n d
