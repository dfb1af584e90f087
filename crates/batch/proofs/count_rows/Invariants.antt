-- The numbers counted, and those of the strokes from k on, are as many as the computed rows have.
use Rattle.std.proofs.Common.{◌≡◌, ◌+◌, ◌*◌, ◌≤◌, length}
use Rattle.batch.proofs.Rows.{rows_from}
use Rattle.batch.proofs.count_rows.Given as goal

abbrev pub invariant-loop-k : goal.invariant-loop-k
invariant-loop-k l = record {
  most : l.needed ≤ 5 * l.k;
  counted : l.needed + length (rows_from l.touches l.w l.s (l.k * 4)) ≡ length (rows_from l.touches l.w l.s 0);
}
