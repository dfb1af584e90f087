-- The numbers of the corners so far stand at the front of the output.
use Rattle.std.proofs.Common.{◌*◌}
use Rattle.writing.proofs.Writing.{PartWritten}
use Rattle.writing.proofs.write_corners.Given as goal

abbrev pub invariant-loop-place : goal.invariant-loop-place
invariant-loop-place l = PartWritten l.m l.n l.initial.out l.out (4 * l.place)
