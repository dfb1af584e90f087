-- Each number is asked for by `on_table`.
use mathlib.Core.Path.{sym, ◌∙◌}
use native.Mathlib.Omega.{arith}
use Rattle.whole.proofs.Comparisons.{ff_tt}
use Rattle.grid.proofs.Ranges.{read_one, first_more, first_none}
use Rattle.grid.proofs.all_on.Goals as goal
use Rattle.grid.proofs.all_on.Goals.{then-not-on_table, else-not-on_table}

pub loop-x-preserved : goal.loop-x-preserved
loop-x-preserved c e = elim c.if-not-on_table.branch [
  | then-not-on_table w ↦ absurd (ff_tt (sym w.on-is ∙ e))
  | else-not-on_table w ↦
      first_more _ _ c.loop-x-test.true (sym (read_one _ c.on_table-arg-1.given) ∙ sym c.on_table.ensures ∙ w.if-not-on_table.false)
      (c.loop-x.invariant (sym w.on-is ∙ e))
]

pub returns : goal.returns
returns c e = omega (arith, first_none _ _ c.loop-x-test.false (c.loop-x.invariant e))
