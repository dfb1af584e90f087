-- Four numbers stand in the output for each corner that is passed; those of the corners from place i on are still to come.
use Rattle.std.proofs.Common.{◌*◌, drop}
use Rattle.grid.proofs.Fill.{Filled}
use Rattle.uncut.proofs.OwnCorners.{over_one}
use Rattle.uncut.proofs.write_corners.Given as goal

abbrev pub invariant-loop-i : goal.invariant-loop-i
invariant-loop-i l = Filled (over_one l.c) (over_one (drop (2 * l.i) l.c)) l.out l.initial.out (4 * l.i)
