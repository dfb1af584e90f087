-- The pen: what a record does to it, where `intake` answers its points.
--   same p q           p and q are one grid point
--   fresh              the pen before the first record
--   begun pen at t     t, but a fault at the record's first byte before any move
--   limited pen at t   t, but a fault at the record's first byte after as many strokes as a drawing may have
--   landed a at go     go at the point that the intake answered by a; a refused one is a fault at that number's first byte
--   drawn_to pen p      the pen after a stroke to p
--   after intake at next pen s   what the step s does. Its record starts at the byte `at`, and the record after it at the byte `next`
--   turn_at intake bs at pen      what the record at `at` does
--   drawn_stroke pen to   the stroke between the places of two pens: the one before it, and `to` after it
use Rattle.std.specs.Prelude.{Bool, true, false, ◌&&◌, List, ℕ, ◌+◌, ◌*◌, eqb, ltb, pos}
use Rattle.std.specs.Ordering.{int_eq}
use Rattle.whole.specs.Choice.{when◌then◌else◌}
use Rattle.grid.specs.Refusals.{most_strokes}
use Rattle.grid.specs.declared.Stroke.{Stroke}
use Rattle.intake.specs.declared.PointAnswer.{PointAnswer}
use Rattle.drawing.specs.Intake.{Intake}
use Rattle.format.specs.Format.{record_at}
use Rattle.format.specs.declared.Step.{Step}
use Rattle.format.specs.declared.Found.{Found}
use Rattle.intake.specs.declared.Point.{Point}
use Rattle.drawing.specs.declared.pen.Pen.{Pen}
use Rattle.drawing.specs.declared.pen.Turn.{Turn}

unfoldable pub same : Point → Point → Bool
same p q = int_eq p.x q.x && int_eq p.y q.y

abbrev pub fresh : Pen
fresh = let p : Point = record { x = pos 0; y = pos 0 } in record { moved = false; here = p; start = p; strokes = 0 }

-- ---- steps

abbrev pub begun : Pen → ℕ → Turn → Turn
begun pen at t = when pen.moved then t else Turn.Fault at

abbrev pub limited : Pen → ℕ → Turn → Turn
limited pen at t = when ltb pen.strokes most_strokes then t else Turn.Fault at

abbrev pub landed : PointAnswer → ℕ → (Point → Turn) → Turn
landed a at go = when eqb a.number 0 then go (record { x = a.x; y = a.y }) else Turn.Fault (at + 1 + 4 * a.place)

abbrev pub drawn_to : Pen → Point → Pen
drawn_to pen p = record { moved = pen.moved; here = p; start = pen.start; strokes = pen.strokes + 1 }

unfoldable pub after : Intake → ℕ → ℕ → Pen → Step → Turn
after intake at next pen (Step.Move x y) =
    landed (intake.point (record { x = x; y = y })) at λ p. Turn.Goes (record { moved = true; here = p; start = p; strokes = pen.strokes }) next
after intake at next pen (Step.Line x y) =
    begun pen at (limited pen at (landed (intake.point (record { x = x; y = y })) at λ p. Turn.Draws (drawn_to pen p) next))
after intake at next pen Step.Close =
    begun pen at (when same pen.here pen.start then Turn.Goes pen next else limited pen at (Turn.Draws (drawn_to pen pen.start) next))

-- ---- records

abbrev pub turn : Intake → ℕ → Pen → Found → Turn
turn intake at pen (Found.Record s next) = after intake at next pen s
turn intake at pen Found.Bad = Turn.Fault at
turn intake at pen Found.End = Turn.End

unfoldable pub turn_at : Intake → List ℕ → ℕ → Pen → Turn
turn_at intake bs at pen = turn intake at pen (record_at bs at)

abbrev pub drawn_stroke : Pen → Pen → Stroke
drawn_stroke pen to = record { x1 = pen.here.x; y1 = pen.here.y; x2 = to.here.x; y2 = to.here.y }
