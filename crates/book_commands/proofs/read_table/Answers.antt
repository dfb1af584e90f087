-- The line asks for what was read.
use mathlib.Core.Path.{sym, ap, ◌∙◌}
use borrow.Author.Rules.{rules}
use Rattle.std.specs.Prelude.{None, Some}
use Rattle.words.specs.Words.{numeral, unsigned}
use Rattle.lending.specs.Lent.{most_room}
use Rattle.lending.proofs.Lists.{no_word, behind_numbers}
use Rattle.book_commands.proofs.Tables.{no_count, too_long, no_numbers, other_count, table_read}
use Rattle.book_commands.proofs.read_table.Goals as goal

pub returns-in_err-first-clause-table : goal.returns-in_err-first-clause-table
returns-in_err-first-clause-table c =
    rw c.from_residual.ensures (λ table more e a. no_count c.args.rest.now (no_word most_room c.args.rest.now c.in_err-first.ensures.parts) table more a)

pub returns-in_err-m-clause-table : goal.returns-in_err-m-clause-table
returns-in_err-m-clause-table c =
    rw c.from_residual-in_err-m.ensures
    (λ table more e a. no_count c.args.rest.now
    (sym (ap (λ w. unsigned most_room (numeral w)) c.in_ok-first.ensures.parts.0) ∙ sym c.read_room.ensures.value ∙ c.in_err-m.was) table more a)

pub returns-then-m-gt-MOST_TABLE-clause-table : goal.returns-then-m-gt-MOST_TABLE-clause-table
returns-then-m-gt-MOST_TABLE-clause-table c = λ table more e a.
    too_long c.args.rest.now c.in_ok-m.m (sym (ap (λ w. unsigned most_room (numeral w)) c.in_ok-first.ensures.parts.0) ∙ sym c.in_ok-m.ensures.value)
    c.if-m-gt-MOST_TABLE.true table more a

pub returns-in_err-count-clause-table : goal.returns-in_err-count-clause-table
returns-in_err-count-clause-table c =
    let out = c.read_numbers.new.numbers in
    rw c.from_residual-in_err-count.ensures
    (no_numbers c.args.rest.now c.in_ok-m.m (sym (ap (λ w. unsigned most_room (numeral w)) c.in_ok-first.ensures.parts.0) ∙ sym c.in_ok-m.ensures.value) out c.args.behind
    (behind_numbers c.args.rest.now c.in_ok-first.text.now out None c.in_ok-first.ensures.parts.1 c.in_err-count.ensures.numbers) (search rules))

pub returns-then-count-m-clause-table : goal.returns-then-count-m-clause-table
returns-then-count-m-clause-table c =
    let out = c.read_numbers.new.numbers in
    other_count c.args.rest.now c.in_ok-m.m (sym (ap (λ w. unsigned most_room (numeral w)) c.in_ok-first.ensures.parts.0) ∙ sym c.in_ok-m.ensures.value) out c.args.behind
    c.in_ok-count.count
    (behind_numbers c.args.rest.now c.in_ok-first.text.now out (Some c.in_ok-count.count) c.in_ok-first.ensures.parts.1 c.in_ok-count.ensures.numbers) c.if-count-m.true

pub returns-clause-table : goal.returns-clause-table
returns-clause-table c =
    let out = c.read_numbers.new.numbers in
    table_read c.args.rest.now c.in_ok-m.m (sym (ap (λ w. unsigned most_room (numeral w)) c.in_ok-first.ensures.parts.0) ∙ sym c.in_ok-m.ensures.value) out c.args.behind
    c.in_ok-count.count
    (behind_numbers c.args.rest.now c.in_ok-first.text.now out (Some c.in_ok-count.count) c.in_ok-first.ensures.parts.1 c.in_ok-count.ensures.numbers)
    (search rules) c.if-count-m.false
