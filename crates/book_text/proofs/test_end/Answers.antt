-- What is left is compared with the last line, and is as long or goes on.
use Rattle.std.proofs.Common.{◌-◌, ◌∙◌, sym, length, drop, length-take, length-drop, arith}
use borrow.Author.Tests.{eqb-true, eqb-false}
use Rattle.book_text.specs.Workers.{ends, goes_on, another}
use Rattle.book_text.proofs.Lines.{compared, not_compared, is_last, not_last}
use Rattle.book_text.proofs.test_end.Goals as goal

pub returns-in_default : goal.returns-in_default
returns-in_default c = another (not_compared c.args.text.now c.args.at c.in_default.ensures.cases)

pub returns-then-not-is_empty : goal.returns-then-not-is_empty
returns-then-not-is_empty c =
    let t = c.args.text.now in
    let at = c.args.at in
    let more = eqb-false (length c.in-Some.behind.now) 0 (sym c.is_empty.ensures ∙ c.if-not-is_empty.true) in
    let size = length-take (length t - at) (drop at t) in
    goes_on (compared t at c.in-Some.ensures.cases.0) (not_last t at (omega (arith, more, size, length-drop at t, c.in-Some.ensures.cases.2)))

pub returns : goal.returns
returns c =
    let t = c.args.text.now in
    let at = c.args.at in
    let none = eqb-true (length c.in-Some.behind.now) 0 (sym c.is_empty.ensures ∙ c.if-not-is_empty.false) in
    let size = length-take (length t - at) (drop at t) in
    ends (is_last t at (omega (arith, none, size, length-drop at t, c.in-Some.ensures.cases.2)) (compared t at c.in-Some.ensures.cases.0))
