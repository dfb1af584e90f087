-- The two numbers are equal where the value is 0.
use Rattle.limits.proofs.Owned.{on_line, number_fits}
use Rattle.limits.proofs.own.lies_on.Goals as goal

pub returns : goal.returns
returns c =
    on_line c.args.outline.now c.args.l.axis_bound c.requires c.args.l.c c.args.l.low c.result-1.given (number_fits c.args.l.on_table).sfits
