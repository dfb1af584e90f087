-- What is above 0 so far is so because w shares area with a strip at one of the places before.
use Rattle.std.proofs.Common.{◌≡◌, pos}
use Rattle.std.specs.Int.Signed.{lt_z}
use Rattle.racks.specs.Areas.{shares_area}
use Rattle.racks.specs.Members.{any}
use Rattle.racks.specs.Racks.{strips_on}
use Rattle.racks.proofs.shares.Given as goal

abbrev pub invariant-loop-j : goal.invariant-loop-j
invariant-loop-j l = lt_z (pos 0) l.most ≡ any (shares_area l.fn.w) (strips_on l.rack l.j)
