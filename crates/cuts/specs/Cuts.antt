-- Which strokes are given, and what the workers promise of them. `touches` says whether strokes that only touch the window, t0 = t1, are asked for.
--   is_given touches a     whether a stroke with the answer a is given: it is kept, and touches are asked for or t0 is not t1
--   touches_at k           whether touches are asked for where the ways of a stroke's coordinates must overlap by k, `Overlap`, so that it is given
--   part_between a b      the part of a stroke from the end a to the end b
--   part_kept a           the part that is kept of a stroke with the answer a: its two points
--   cut_of touches a      what is given of a stroke with the answer a: that part, if it is given
--   CutIs touches w s c   c is what is given of the stroke s, by its answer
--   SaysGiven touches w s b   b says whether the stroke s is given, by its answer
use Rattle.std.specs.Prelude.{◌≡◌, Bool, true, false, not, ◌&&◌, ◌||◌, ℕ, zero, suc, Option, Some, None}
use Rattle.whole.specs.Choice.{when◌then◌else◌}
use Rattle.fraction.specs.Fraction.{equal_to}
use Rattle.grid.specs.declared.Stroke.{Stroke}
use Rattle.grid.specs.declared.Window.{Window}
use Rattle.strokes.specs.Strokes.{Clipped}
use Rattle.strokes.specs.declared.End.{End}
use Rattle.strokes.specs.declared.StrokeAnswer.{StrokeAnswer}

-- A stroke of no length inside has t0 = 0/1 and t1 = 1/1, so it is given without being asked for: that dot is meant.
abbrev pub is_given : Bool → StrokeAnswer → Bool
is_given touches a = a.kept && (touches || not (equal_to a.t0 a.t1))

-- ---- what the workers promise
abbrev pub touches_at : ℕ → Bool
touches_at zero = true
touches_at (suc k) = false

abbrev pub part_between : End → End → Stroke
part_between a b = record { x1 = a.x; y1 = a.y; x2 = b.x; y2 = b.y }

abbrev pub part_kept : StrokeAnswer → Stroke
part_kept a = record { x1 = a.ax; y1 = a.ay; x2 = a.bx; y2 = a.by }

abbrev pub cut_of : Bool → StrokeAnswer → Option Stroke
cut_of touches a = when is_given touches a then Some (part_kept a) else None

abbrev pub CutIs : Bool → Window → Stroke → Option Stroke → Type 0
CutIs touches w s c = (a : StrokeAnswer) → Clipped w s a → c ≡ cut_of touches a

abbrev pub SaysGiven : Bool → Window → Stroke → Bool → Type 0
SaysGiven touches w s b = (a : StrokeAnswer) → Clipped w s a → b ≡ is_given touches a
