-- Laws of the sides that a stroke's line crosses, proved in proofs/Missed.antt and proofs/Unique.antt.
--   OneSideMissed   where all four corners lie on one side of the line no point of the stroke lies in the closed window
--   OneCrossing     two answers that are right for one window and one stroke are equal
use Rattle.std.specs.Prelude.{◌≡◌, Option, ℤ}
use Rattle.grid.specs.declared.Stroke.{Stroke}
use Rattle.grid.specs.declared.Window.{Window}
use Rattle.strokes.specs.Strokes.{Keeps}
use Rattle.crossed_sides.specs.declared.Crossed.{Crossed}
use Rattle.crossed_sides.specs.Line.{OneSide, CrossedBy}

abbrev pub OneSideMissed : Type 0
OneSideMissed = (w : Window) (s : Stroke) → OneSide w s → (n d : ℤ) → Keeps w s n d → ⊥

abbrev pub OneCrossing : Type 0
OneCrossing = (w : Window) (s : Stroke) (c d : Option Crossed) → CrossedBy w s c → CrossedBy w s d → c ≡ d
