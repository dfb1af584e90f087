-- The records of the lines before the place `from` stand in the page.
use Rattle.std.proofs.Common.{◌+◌, ◌-◌, ◌≤◌, length}
use Rattle.pen.proofs.Drawings.{Going}
use Rattle.pen.proofs.draw.Given as goal

abbrev pub invariant-loop-from : goal.invariant-loop-from
invariant-loop-from l =
    (l.from ≤ length l.text + 1) × (l.line ≤ l.from + 1) × Going l.text l.initial.page l.page l.line l.from l.at

abbrev pub decreases-loop-from : goal.decreases-loop-from
decreases-loop-from l = length l.text + 1 - l.from
