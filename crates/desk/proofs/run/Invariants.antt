-- The exchange stays within its bounds, line after line.
use Rattle.exchange.specs.Talks.{InBounds}
use Rattle.desk.proofs.run.Given as goal

abbrev pub invariant-loop-number : goal.invariant-loop-number
invariant-loop-number l = InBounds l.talk
