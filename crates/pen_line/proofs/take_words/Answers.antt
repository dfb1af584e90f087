-- The first word says what is asked for, and the tests say whether it may follow.
use Rattle.std.proofs.Common.{Some, None, subst, arith}
use borrow.Author.Rules.{rules}
use Rattle.text.proofs.Puts.{put_nothing}
use Rattle.pen_line.specs.Records.{blank, unknown, second_strip, no_strip, taken, refused}
use Rattle.pen_line.specs.Workers.{AskedBy}
use Rattle.pen_line.proofs.Words.{end_is, word_is, no_word, some_word, the_strip, nothing_said, few_numbers, nothing_asked, is_asked}
use Rattle.pen_line.proofs.Records.{taken_as, ordered}
use Rattle.pen_line.proofs.take_words.Goals as goal

pub returns-then-is_empty : goal.returns-then-is_empty
returns-then-is_empty c = taken (blank (nothing_said c.args.line.now (search rules))) (put_nothing _ c.requires.1)

pub returns-then-end-start : goal.returns-then-end-start
returns-then-end-start c =
    taken (blank (no_word c.args.line.now 0 c.skip-start.ensures.value c.find-end.ensures.value c.if-end-start.true)) (put_nothing _ c.requires.1)

pub returns-in_default : goal.returns-in_default
returns-in_default c =
    let l = c.args.line.now in
    let s = c.skip-start.ensures.value in
    let e = c.find-end.ensures in
    refused (unknown (some_word l 0 s e.value e.upper_bound c.if-end-start.false)
    (nothing_asked (subst (λ w. AskedBy w None) (word_is l 0 s e.value) c.in_default.ensures)))

pub returns-then-at-ne4 : goal.returns-then-at-ne4
returns-then-at-ne4 c =
    let k = is_asked (subst (λ w. AskedBy w (Some c.in-Some.asked)) (word_is c.args.line.now 0 c.skip-start.ensures.value c.find-end.ensures.value) c.in-Some.ensures) in
    refused (second_strip (the_strip k c.if-asked-eq-VERSION.true) (λ z. c.if-at-ne4.true (omega arith)))

pub returns-then-at-eq4 : goal.returns-then-at-eq4
returns-then-at-eq4 c =
    let k = is_asked (subst (λ w. AskedBy w (Some c.in-Some.asked)) (word_is c.args.line.now 0 c.skip-start.ensures.value c.find-end.ensures.value) c.in-Some.ensures) in
    refused (no_strip k c.if-asked-ne-VERSION.true (omega arith))

pub put_record-requires-clause-count_bound : goal.put_record-requires-clause-count_bound
put_record-requires-clause-count_bound c =
    let k = is_asked (subst (λ w. AskedBy w (Some c.in-Some.asked)) (word_is c.args.line.now 0 c.skip-start.ensures.value c.find-end.ensures.value) c.in-Some.ensures) in
    few_numbers k

pub returns : goal.returns
returns c =
    let k = is_asked (subst (λ w. AskedBy w (Some c.in-Some.asked)) (word_is c.args.line.now 0 c.skip-start.ensures.value c.find-end.ensures.value) c.in-Some.ensures) in
    taken_as c.requires.0 c.requires.1 (end_is c.args.line.now 0 c.skip-start.ensures.value c.find-end.ensures.value) k
    (ordered c.requires.0 c.else-asked-eq-VERSION.either c.else-asked-ne-VERSION.either) c.put_record.ensures
