-- By its mark the slot is free, or its strip is tested and put on the rack, and is good where the mark is 1.
use Rattle.std.proofs.Common.{◌+◌, ◌≤◌, length, arith, ◌∙◌, sym}
use Rattle.grid.proofs.Refusals.{window_on_table}
use Rattle.slots.proofs.Good.{strips_behind}
use Rattle.slots.proofs.Testing.{tests_fine, tests_bad, mark_is, fails_mark, passes_free, fails_strip, passes_used}
use Rattle.slots.proofs.gather_slot.Goals as goal

pub returns-then-book-p-eq0 : goal.returns-then-book-p-eq0
returns-then-book-p-eq0 c =
    let zs = c.args.book.now in
    let h : c.args.p + 5 ≤ length zs = omega arith in
    passes_free zs c.args.p h (mark_is zs c.args.p h (omega arith) 0 (omega arith) c.if-book-p-eq0.true) c.requires.gathered

pub returns-then-is_err : goal.returns-then-is_err
returns-then-is_err c =
    fails_strip c.args.book.now c.args.p (omega arith) c.strip_at-w.ensures c.if-book-p-eq0.false
    (tests_bad c.test_window.result _ c.test_window.ensures (sym c.is_err.ensures.value ∙ c.if-is_err.true))

pub put-requires-clause-n_bound : goal.put-requires-clause-n_bound
put-requires-clause-n_bound c =
    omega (arith, strips_behind c.args.book.now (c.args.p + 5) c.requires.book_len, c.requires.gathered.count)

pub put-requires-clause-window_on_table : goal.put-requires-clause-window_on_table
put-requires-clause-window_on_table c =
    window_on_table _ (tests_fine c.test_window.result _ c.test_window.ensures (sym c.is_err.ensures.value ∙ c.if-is_err.false))

pub returns-then-book-p-ne1 : goal.returns-then-book-p-ne1
returns-then-book-p-ne1 c = fails_mark c.args.book.now c.args.p (omega arith) c.if-book-p-eq0.false c.if-book-p-ne1.true

pub returns : goal.returns
returns c =
    let zs = c.args.book.now in
    let h : c.args.p + 5 ≤ length zs = omega arith in
    let used = mark_is zs c.args.p h (omega arith) 1 (omega arith) c.if-book-p-ne1.false in
    let fine = tests_fine c.test_window.result _ c.test_window.ensures (sym c.is_err.ensures.value ∙ c.if-is_err.false) in
    passes_used zs c.args.p h c.strip_at-w.ensures used fine c.requires.gathered
    (c.put.ensures _ c.requires.gathered.count c.requires.gathered.holds)
