-- Laws over several calls, proved in proofs/Worked.antt and proofs/Agreement.antt.
--   Worked               the worked examples A to S, and E, M, O, Q and R turned round: each answer in the table satisfies the statements, and no other does
--   SameAnswer a b       `corners::cyrus_beck` answers by a what `strokes::liang_barsky` answers by b, without points and
--                        sides. The place of 2 is an index in the numbers that the call was given, eight for four
--                        corners and four for a rectangle, and may differ. Edges are numbered from the first corner on,
--                        so that at a corner of the window the other of two sides may be named
--   RectangleAsCorners   a rectangle given as its four corners, in turn from any, has the same answer: the same
--                        refusal, the same fractions. Left out is a rectangle that is turned over: as it stands it is
--                        refused by 3, while its corners go counterclockwise all the same, and are a window
use Rattle.std.specs.Prelude.{◌≡◌, List, ℤ}
use Rattle.corners.specs.Corners.{CyrusBeck}
use Rattle.corners.specs.Rectangles.{RectangleCorners, TurnedOver}
use Rattle.corners.specs.declared.CornerAnswer.{CornerAnswer}
use Rattle.grid.specs.declared.Stroke.{Stroke}
use Rattle.grid.specs.declared.Window.{Window}
use Rattle.grid.specs.Refusals.{window_off}
use Rattle.strokes.specs.Strokes.{Clipping}
use Rattle.strokes.specs.declared.StrokeAnswer.{StrokeAnswer}
use Rattle.rings.specs.Lists.{All}
use Rattle.worked.specs.Examples.{Holds, table}

abbrev pub Worked : Type 0
Worked = All Holds table

pub record SameAnswer (a : CornerAnswer) (b : StrokeAnswer) : Type 0 where
  pub number : a.number ≡ b.number
  pub place : (a.number ≡ window_off → ⊥) → a.place ≡ b.place
  pub kept : a.kept ≡ b.kept
  pub t0 : a.t0 ≡ b.t0
  pub t1 : a.t1 ≡ b.t1

abbrev pub RectangleAsCorners : Type 0
RectangleAsCorners = (w : Window) (s : Stroke) (zs : List ℤ) (a : CornerAnswer) (b : StrokeAnswer)
    → (TurnedOver w → ⊥) → RectangleCorners w zs → CyrusBeck zs s a → Clipping w s b → SameAnswer a b
