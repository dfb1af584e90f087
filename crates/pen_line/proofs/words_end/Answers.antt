-- Each way out is a case of the definition.
use Rattle.std.proofs.Common.{arith, ◌-◌, ap, sym, ◌∙◌, get_or, le_antisymm}
use Rattle.text.proofs.Ends.{ends_so, ends_otherwise}
use Rattle.pen_line.proofs.Words.{comment, return_before, no_return}
use Rattle.pen_line.proofs.words_end.Goals as goal

pub returns-then-end-line-clause-value : goal.returns-then-end-line-clause-value
returns-then-end-line-clause-value c = comment _ _ c.find-end.ensures.value c.if-end-line.true

pub returns-then-ends_with-clause-value : goal.returns-then-ends_with-clause-value
returns-then-ends_with-clause-value c =
    let f = c.find-end.ensures in
    let all = le_antisymm f.upper_bound c.if-end-line.false in
    return_before _ _ f.value c.if-end-line.false f.upper_bound
    (ap (λ x. get_or c.args.line.now (x - 1) 0) all ∙ ends_so c.args.line.now 13 c.ends_with.ensures.value c.if-ends_with.true)

pub returns-clause-value : goal.returns-clause-value
returns-clause-value c =
    let f = c.find-end.ensures in
    let all = le_antisymm f.upper_bound c.if-end-line.false in
    no_return _ _ f.value c.if-end-line.false f.upper_bound
    (λ q. ends_otherwise c.args.line.now 13 c.ends_with.ensures.value (omega arith) c.if-ends_with.false (ap (λ x. get_or c.args.line.now (x - 1) 0) (sym all) ∙ q))
