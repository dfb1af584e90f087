-- What is counted, and what the slots from k on give, are the numbers of the listing.
use Rattle.std.proofs.Common.{◌≡◌, ◌+◌, ◌*◌, ◌≤◌, length}
use Rattle.own_strips.specs.Rows.{listed_on}
use Rattle.own_strips.proofs.count_listed.Given as goal

abbrev pub invariant-loop-k : goal.invariant-loop-k
invariant-loop-k l = record {
  few : l.needed ≤ 5 * l.k;
  all : l.needed + length (listed_on l.from l.book l.k) ≡ length (listed_on l.from l.book 0);
}
