-- As the loop runs the piece has the codes of its points, and the rule has reached it after as many shortenings as are counted. What is left of four falls.
use Rattle.std.proofs.Common.{◌-◌}
use Rattle.codes.specs.Workers.{PieceOf}
use Rattle.codes.proofs.Shortenings.{Reached}
use Rattle.codes.proofs.clipped.Given as goal

abbrev pub invariant-loop-which : goal.invariant-loop-which
invariant-loop-which l = record { piece_of : PieceOf l.w l.s l.piece; reached : Reached l.w l.s l.piece.start.t l.piece.end.t l.shortenings }

abbrev pub decreases-loop-which : goal.decreases-loop-which
decreases-loop-which l = 4 - l.shortenings
