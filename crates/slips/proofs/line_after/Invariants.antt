-- The lines so far are passed, so that it is the line after those left.
use Rattle.std.proofs.Common.{◌≡◌, ◌-◌, ◌≤◌, length, drop}
use Rattle.slips.specs.Texts.{line_after}
use Rattle.slips.proofs.line_after.Given as goal

abbrev pub invariant-loop : goal.invariant-loop
invariant-loop l = (l.from ≤ length l.text) × (line_after l.before l.text ≡ line_after (l.before - l.counter) (drop l.from l.text))
