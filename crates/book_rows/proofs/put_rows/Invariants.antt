-- Each line takes at most 580 bytes, and what is put and what is left to put are all lines.
use Rattle.std.proofs.Common.{◌+◌, ◌*◌, ◌-◌, ◌≤◌}
use Rattle.book_rows.proofs.Rows.{Putting}
use Rattle.book_rows.proofs.put_rows.Given as goal

abbrev pub invariant-loop-k : goal.invariant-loop-k
invariant-loop-k l = record {
  few : l.k ≤ l.to;
  short : l.end ≤ l.at + 580 * (l.k - l.from);
  lines : Putting l.book l.to l.from l.k l.initial.page l.page l.at l.end;
}
