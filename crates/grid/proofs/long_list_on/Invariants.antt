-- While least and most are on the table, the first number off it is so much further than that of the rest.
use Rattle.std.proofs.Common.{◌≡◌, ◌+◌, drop}
use lib.IntN.{pos, neg_ℤ}
use lib.Signed.{◌≤ℤ◌}
use Rattle.grid.specs.Table.{farthest, first_off}
use Rattle.grid.proofs.long_list_on.Given as goal

abbrev pub invariant-loop-x : goal.invariant-loop-x
invariant-loop-x l = neg_ℤ (pos farthest) ≤ℤ l.least → l.most ≤ℤ pos farthest → first_off l.s ≡ l.x-index + first_off (drop l.x-index l.s)
