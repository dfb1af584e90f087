-- What comes of a line fits the page.
use Rattle.std.proofs.Common.{◌∙◌, sym, length, arith}
use lib.Seq.{take_all}
use Rattle.sittings.proofs.Orders.{serves_fit, serves_as, long_line, kept_line}
use Rattle.sittings.proofs.answer.Goals as goal

pub returns-then-line-eq400001-clause-serves : goal.returns-then-line-eq400001-clause-serves
returns-then-line-eq400001-clause-serves c = serves_as (sym (long_line _ _ c.if-line-eq400001.true)) c.serve.ensures

pub returns-then-line-eq400001-clause-end_in_bounds : goal.returns-then-line-eq400001-clause-end_in_bounds
returns-then-line-eq400001-clause-end_in_bounds c = serves_fit c.serve.ensures

pub returns-clause-serves : goal.returns-clause-serves
returns-clause-serves c =
    let l = c.args.line.now in
    serves_as (sym (kept_line l (length l) c.if-line-eq400001.false ∙ take_all (length l) l (omega arith))) c.serve-2.ensures

pub returns-clause-end_in_bounds : goal.returns-clause-end_in_bounds
returns-clause-end_in_bounds c = serves_fit c.serve-2.ensures
