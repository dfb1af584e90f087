-- Each way out is a case of the definition.
use Rattle.std.proofs.Common.{ℕ, sym, ap, ◌∙◌, get_or}
use Rattle.pen_line.proofs.Words.{end_is}
use Rattle.slips.specs.Slips.{is_capital, of_numbers}
use Rattle.slips.proofs.Tests.{first_from, mark, blank, capital, small}
use Rattle.slips.proofs.of_words.Goals as goal

pub returns-then-marked : goal.returns-then-marked
returns-then-marked c = mark _ _ (sym c.marked.ensures ∙ c.if-marked.true)

pub returns-then-unseen : goal.returns-then-unseen
returns-then-unseen c = blank _ _ (sym c.marked.ensures ∙ c.if-marked.false) (sym c.unseen.ensures ∙ c.if-unseen.true)

pub returns-then-is_capital : goal.returns-then-is_capital
returns-then-is_capital c =
    let l = c.args.line.now in
    let first = first_from l c.skip-start.result ∙ ap (λ (k : ℕ). get_or l k 0) c.skip-start.ensures.value in
    capital _ _ (sym c.marked.ensures ∙ c.if-marked.false) (sym c.unseen.ensures ∙ c.if-unseen.false)
    (sym (c.is_capital.ensures ∙ ap is_capital first) ∙ c.if-is_capital.true)

pub returns : goal.returns
returns c =
    let l = c.args.line.now in
    let first = first_from l c.skip-start.result ∙ ap (λ (k : ℕ). get_or l k 0) c.skip-start.ensures.value in
    c.of_numbers.ensures
    ∙ ap (λ (k : ℕ). of_numbers l k c.args.count) (end_is l 0 c.skip-start.ensures.value c.find-end.ensures.value)
    ∙ small _ _ (sym c.marked.ensures ∙ c.if-marked.false) (sym c.unseen.ensures ∙ c.if-unseen.false)
    (sym (c.is_capital.ensures ∙ ap is_capital first) ∙ c.if-is_capital.false)
