-- The rows of the strokes before k are written.
use Rattle.batch.proofs.Writing.{Writing}
use Rattle.batch.proofs.write_rows.Given as goal

abbrev pub invariant-loop-k : goal.invariant-loop-k
invariant-loop-k l = Writing l.touches l.w l.s l.fn.out l.out l.n l.k
