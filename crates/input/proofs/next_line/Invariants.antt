-- The reading stays within its bounds, turn after turn.
use Rattle.input.specs.Sources.{InReach}
use Rattle.input.proofs.next_line.Given as goal

abbrev pub invariant-loop-turn : goal.invariant-loop-turn
invariant-loop-turn l = InReach l.source
