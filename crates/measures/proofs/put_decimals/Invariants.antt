-- What is put and what is left to put are all decimals; each took at most 20 bytes.
use Rattle.std.proofs.Common.{◌+◌, ◌*◌, ◌-◌, ◌≤◌, ◌<◌}
use Rattle.measures.proofs.Divisions.{Dividing}
use Rattle.measures.proofs.put_decimals.Given as goal

abbrev pub invariant-loop : goal.invariant-loop
invariant-loop l =
    (l.left < 32) × (l.end + 20 * (5 - l.counter) ≤ l.at + 100) × Dividing l.part l.initial.page l.page l.at l.end l.left (5 - l.counter)
