-- After k points the rectangle is the one that holds the first k.
use Rattle.std.proofs.Common.{◌≡◌}
use Rattle.view.specs.Views.{reach}
use Rattle.view.proofs.reach.Given as goal

abbrev pub invariant-loop-k : goal.invariant-loop-k
invariant-loop-k l = l.r ≡ reach l.initial.r l.points l.k
