-- The most of the numbers so far is above 0 where one of them is.
use Rattle.std.proofs.Common.{◌≡◌, ◌||◌, pos, drop}
use Rattle.std.specs.Int.Signed.{lt_z}
use Rattle.racks.specs.Pairs.{above}
use Rattle.racks.proofs.any_above.Given as goal

abbrev pub invariant-loop-number : goal.invariant-loop-number
invariant-loop-number l = (lt_z (pos 0) l.greatest || above (drop l.number-index l.number-items)) ≡ above l.number-items
