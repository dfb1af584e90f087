-- Each number is asked for by `on_table`.
use mathlib.Core.Path.{sym, ◌∙◌}
use native.Mathlib.Omega.{arith}
use Rattle.grid.proofs.Ranges.{read_one, first_more, first_here, first_none}
use Rattle.grid.proofs.first_off.Goals as goal

pub returns-then-not-on_table : goal.returns-then-not-on_table
returns-then-not-on_table c =
    first_here _ _ c.loop-i-test.true (sym (read_one _ c.on_table-arg-1.given) ∙ sym c.on_table.ensures ∙ c.if-not-on_table.true) c.loop-i.invariant

pub loop-i-preserved : goal.loop-i-preserved
loop-i-preserved c =
    first_more _ _ c.loop-i-test.true (sym (read_one _ c.on_table-arg-1.given) ∙ sym c.on_table.ensures ∙ c.if-not-on_table.false) c.loop-i.invariant

pub returns : goal.returns
returns c = let e = first_none _ _ c.loop-i-test.false c.loop-i.invariant in omega (arith, e, c.loop-i-test.false, c.loop-i.auto.i-end)
