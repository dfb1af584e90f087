-- One of the two letters is found, or none.
use Rattle.std.proofs.Common.{sym, ◌∙◌}
use Rattle.slips.proofs.Tests.{small_e, capital_e, no_e}
use Rattle.slips.proofs.of_digits.Goals as goal
use Rattle.slips.proofs.of_digits.Goals.{then-has-via-then-has, then-has-via-else-has+then-has-2}

pub returns-then-has : goal.returns-then-has
returns-then-has c = elim c.then-has.branch [
  | then-has-via-then-has w ↦ small_e _ (sym c.has.ensures ∙ w.if-has.true)
  | then-has-via-else-has+then-has-2 w ↦ capital_e _ (sym c.has.ensures ∙ w.if-has.false) (sym w.has-else-has.ensures ∙ w.if-has-2.true)
]

pub returns : goal.returns
returns c = no_e _ (sym c.has.ensures ∙ c.if-has.false) (sym c.has-else-has.ensures ∙ c.if-has-2.false)
