-- i numbers stand in the page, and the last of them ends at the place `end` of the line.
use Rattle.std.proofs.Common.{◌≤◌, length}
use Rattle.pen_line.proofs.Numbers.{Begun}
use Rattle.pen_line.proofs.put_numbers.Given as goal

abbrev pub invariant-loop-i : goal.invariant-loop-i
invariant-loop-i l = (l.end ≤ length l.line) × Begun l.line l.from l.i l.end l.initial.page l.page l.at
