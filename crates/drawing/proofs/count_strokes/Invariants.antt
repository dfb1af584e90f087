-- The strokes so far and those of the rest of the records are together those of all.
use Rattle.std.proofs.Common.{◌≡◌, ◌-◌, ◌≤◌, length}
use Rattle.format.specs.Format.{most_bytes, head_size}
use Rattle.drawing.specs.Pen.{fresh}
use Rattle.drawing.specs.Drawings.{surveyed}
use Rattle.drawing.proofs.Computed.{computed}
use Rattle.drawing.proofs.Walks.{rest, counted}
use Rattle.drawing.proofs.count_strokes.Given as goal

abbrev pub invariant-loop-to : goal.invariant-loop-to
invariant-loop-to l =
    (length l.bytes ≤ most_bytes)
    × (counted l.pen.strokes (rest computed l.bytes l.window l.at l.pen) ≡ surveyed (rest computed l.bytes l.window head_size fresh))

abbrev pub decreases-loop-to : goal.decreases-loop-to
decreases-loop-to l = length l.bytes - l.at
