-- The words so far are without a slip, so that it is the slip of those left.
use Rattle.std.proofs.Common.{◌≡◌, ◌-◌, ◌≤◌, length}
use Rattle.slips.specs.Slips.{of_numbers}
use Rattle.slips.proofs.of_numbers.Given as goal

abbrev pub invariant-loop : goal.invariant-loop
invariant-loop l = (l.end ≤ length l.line) × (of_numbers l.line l.from l.count ≡ of_numbers l.line l.end (l.count - l.counter))
