-- The numbers so far stand in the output, and those of the rest of the records are still to come.
use Rattle.std.proofs.Common.{◌-◌, length}
use Rattle.drawing.proofs.Progress.{Progress}
use Rattle.drawing.proofs.write_strokes.Given as goal

abbrev pub invariant-loop-to : goal.invariant-loop-to
invariant-loop-to l = Progress l.bytes l.initial.out l.out l.at l.pen

abbrev pub decreases-loop-to : goal.decreases-loop-to
decreases-loop-to l = length l.bytes - l.at
