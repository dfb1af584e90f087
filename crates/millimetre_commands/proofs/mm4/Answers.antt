-- The line asks for what was read.
use mathlib.Core.Path.{sym, ◌∙◌}
use native.Mathlib.Omega.{arith}
use borrow.Author.Rules.{rules}
use Rattle.replies.specs.Replies.{to_call, to_none}
use Rattle.replies.proofs.Lines.{tells}
use Rattle.millimetre_commands.proofs.Words.{long, not_bad, next_at, put_at_lem, end_at}
use Rattle.millimetre_commands.proofs.mm4.Goals as goal

pub returns-then-rest-ne36-clause-mm4 : goal.returns-then-rest-ne36-clause-mm4
returns-then-rest-ne36-clause-mm4 c = to_none (λ p s. c.if-rest-ne36.true (long s))

pub returns-in_err-left-clause-mm4 : goal.returns-in_err-left-clause-mm4
returns-in_err-left-clause-mm4 c = let text = c.args.rest.now in
    rw c.from_residual.ensures (to_none (λ p s. not_bad text 0 (sym c.single_at.ensures ∙ c.in_err-left.was) s))

pub returns-in_err-bottom-clause-mm4 : goal.returns-in_err-bottom-clause-mm4
returns-in_err-bottom-clause-mm4 c = let text = c.args.rest.now in
    rw c.from_residual-in_err-bottom.ensures (to_none (λ p s. not_bad text 9 (sym c.single_at-2.ensures ∙ c.in_err-bottom.was) (next_at text 0 s)))

pub returns-in_err-right-clause-mm4 : goal.returns-in_err-right-clause-mm4
returns-in_err-right-clause-mm4 c = let text = c.args.rest.now in
    rw c.from_residual-in_err-right.ensures (to_none (λ p s. not_bad text 18 (sym c.single_at-3.ensures ∙ c.in_err-right.was) (next_at text 9 (next_at text 0 s))))

pub returns-in_err-top-clause-mm4 : goal.returns-in_err-top-clause-mm4
returns-in_err-top-clause-mm4 c = let text = c.args.rest.now in
    rw c.from_residual-in_err-top.ensures (to_none (λ p s. not_bad text 27 (sym c.single_at-4.ensures ∙ c.in_err-top.was) (next_at text 18 (next_at text 9 (next_at text 0 s)))))

pub returns-clause-mm4 : goal.returns-clause-mm4
returns-clause-mm4 c = let text = c.args.rest.now in
    to_call _
    (put_at_lem text 0 (omega arith) (sym c.single_at.ensures ∙ c.in_ok-left.was)
    (put_at_lem text 9 (omega arith) (sym c.single_at-2.ensures ∙ c.in_ok-bottom.was)
    (put_at_lem text 18 (omega arith) (sym c.single_at-3.ensures ∙ c.in_ok-right.was)
    (put_at_lem text 27 (omega arith) (sym c.single_at-4.ensures ∙ c.in_ok-top.was)
    (end_at text 36 (omega arith))))))
    (tells {n = 6} c.window_to_grid-a.result c.window_to_grid-a.ensures (search rules))
