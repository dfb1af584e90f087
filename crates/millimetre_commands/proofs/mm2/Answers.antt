-- The line asks for what was read.
use mathlib.Core.Path.{sym, ◌∙◌}
use native.Mathlib.Omega.{arith}
use borrow.Author.Rules.{rules}
use Rattle.replies.specs.Replies.{to_call, to_none}
use Rattle.replies.proofs.Lines.{tells}
use Rattle.millimetre_commands.proofs.Words.{long, not_bad, next_at, put_at_lem, end_at}
use Rattle.millimetre_commands.proofs.mm2.Goals as goal

pub returns-then-rest-ne18-clause-mm2 : goal.returns-then-rest-ne18-clause-mm2
returns-then-rest-ne18-clause-mm2 c = to_none (λ p s. c.if-rest-ne18.true (long s))

pub returns-in_err-x-clause-mm2 : goal.returns-in_err-x-clause-mm2
returns-in_err-x-clause-mm2 c = let text = c.args.rest.now in
    rw c.from_residual.ensures (to_none (λ p s. not_bad text 0 (sym c.single_at.ensures ∙ c.in_err-x.was) s))

pub returns-in_err-y-clause-mm2 : goal.returns-in_err-y-clause-mm2
returns-in_err-y-clause-mm2 c = let text = c.args.rest.now in
    rw c.from_residual-in_err-y.ensures (to_none (λ p s. not_bad text 9 (sym c.single_at-2.ensures ∙ c.in_err-y.was) (next_at text 0 s)))

pub returns-clause-mm2 : goal.returns-clause-mm2
returns-clause-mm2 c = let text = c.args.rest.now in
    to_call _
    (put_at_lem text 0 (omega arith) (sym c.single_at.ensures ∙ c.in_ok-x.was)
    (put_at_lem text 9 (omega arith) (sym c.single_at-2.ensures ∙ c.in_ok-y.was)
    (end_at text 18 (omega arith))))
    (tells {n = 4} c.point_to_grid-a.result c.point_to_grid-a.ensures (search rules))
