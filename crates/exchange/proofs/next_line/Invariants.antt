-- The reading stays within its bounds, and the page is not filled past its mark, turn after turn.
use Rattle.std.proofs.Common.{◌≤◌}
use Rattle.input.specs.Sources.{InReach}
use Rattle.exchange.proofs.next_line.Given as goal

abbrev pub invariant-loop-turn : goal.invariant-loop-turn
invariant-loop-turn l = InReach l.source × (l.used ≤ 65536)
