-- The line lends and lists what was read.
use mathlib.Core.Path.{sym, ap, ◌∙◌}
use native.Mathlib.Omega.{arith}
use Rattle.std.specs.Prelude.{None, Some}
use borrow.Author.Rules.{rules}
use Rattle.words.specs.Words.{numeral, unsigned}
use Rattle.arguments.proofs.Numbers.{count_yes, count_no}
use Rattle.lending.specs.Lent.{most_room}
use Rattle.lending.proofs.Lists.{no_word, no_room, behind_numbers, no_numbers, too_few, other_count, asks_list}
use Rattle.lending.proofs.read_list.Goals as goal
use Rattle.lending.proofs.read_list.Goals.{then-end-lt5-via-then-end-lt5, then-end-lt5-via-else-end-lt5+then-numbers-end}

pub returns-in_err-first-clause-read_list : goal.returns-in_err-first-clause-read_list
returns-in_err-first-clause-read_list c = rw c.from_residual.ensures
    (λ x a. no_room c.args.rest.now (no_word most_room c.args.rest.now c.in_err-first.ensures.parts) x.room a.room)

pub returns-in_err-end-clause-read_list : goal.returns-in_err-end-clause-read_list
returns-in_err-end-clause-read_list c = rw c.from_residual-in_err-end.ensures
    (no_numbers c.args.rest.now c.read_numbers.new.numbers (behind_numbers c.args.rest.now c.in_ok-first.behind.now c.read_numbers.new.numbers None c.in_ok-first.ensures.parts.1 c.in_err-end.ensures.numbers))

pub returns-then-end-lt5-clause-read_list : goal.returns-then-end-lt5-clause-read_list
returns-then-end-lt5-clause-read_list c =
    let text = c.args.rest.now in let out = c.read_numbers.new.numbers in
    let read = behind_numbers text c.in_ok-first.behind.now out (Some c.in_ok-end.end) c.in_ok-first.ensures.parts.1 c.in_ok-end.ensures.numbers in
    elim c.then-end-lt5.branch [
      | then-end-lt5-via-then-end-lt5 w ↦ too_few text out _ read w.if-end-lt5.true
      | then-end-lt5-via-else-end-lt5+then-numbers-end w ↦ other_count text out _ read (count_no _ _ w.if-numbers-end.true)
    ]

pub returns-clause-read_list : goal.returns-clause-read_list
returns-clause-read_list c =
    let text = c.args.rest.now in
    asks_list text c.read_numbers.new.numbers _ (behind_numbers text c.in_ok-first.behind.now c.read_numbers.new.numbers (Some c.in_ok-end.end) c.in_ok-first.ensures.parts.1 c.in_ok-end.ensures.numbers)
    (sym (ap (λ w. unsigned most_room (numeral w)) c.in_ok-first.ensures.parts.0) ∙ sym c.in_ok-room.ensures.value)
    c.if-end-lt5.false
    (count_yes _ _ (search rules) (omega (arith, c.in_ok-end.ensures.upper_bound)) c.if-numbers-end.false)
