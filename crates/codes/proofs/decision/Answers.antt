-- `codes::decision` meets its contract: the table is the rule's own, computed at each of the 16 by 16 pairs of codes. Assumes nothing.
use lib.Count.{count_trailing_zeros}
use Rattle.codes.specs.Codes.{decision as Codes·decision}
use Rattle.codes.proofs.Everywhere.{tabulated}
use Rattle.codes.proofs.decision.Goals as goal

pub returns : goal.returns
unfolding Codes·decision count_trailing_zeros
returns c = tabulated Codes·decision c.requires.a_bound c.requires.b_bound
