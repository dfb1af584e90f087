-- The lines so far are a book's, and so is the table; a line that does not follow them is the only one that could.
use Rattle.std.proofs.Common.{◌≡◌, ◌∙◌, refl, sym, ap, subst, length, arith}
use Rattle.slots.specs.Slots.{is_book}
use Rattle.row_reading.proofs.Unique.{row_long, stands_within}
use Rattle.book_text.specs.Texts.{head_text}
use Rattle.book_text.specs.Readings.{Lines, first, one_more, no_first, no_line}
use Rattle.book_text.proofs.Lines.{headed_so, not_headed, row_within, no_end, text_over, no_room, too_early, no_book, empty_long, with_long, ended}
use Rattle.book_text.proofs.read_book.Goals as goal

pub returns-then-not-starts_with : goal.returns-then-not-starts_with
returns-then-not-starts_with c = no_first (not_headed c.args.text.now 0 c.starts_with.ensures.value c.if-not-starts_with.true)

pub loop-at-init : goal.loop-at-init
loop-at-init c =
    let head = headed_so c.args.text.now 0 c.starts_with.ensures.value c.if-not-starts_with.false in
    let size : length head_text ≡ 69 = refl in
    record {
      behind_first = omega arith;
      within = omega (arith, size, stands_within c.args.text.now head_text 0 head);
      few = omega arith;
      in_table = omega arith;
      long = ap length c.requires ∙ empty_long;
      lines = subst (Lines _ 2 69 0) (sym c.requires) (first head);
    }

pub returns-in_default : goal.returns-in_default
returns-in_default c = ended c.loop-at.invariant.lines (λ k w f. c.in_default.ensures k w f.line) c.test_end.ensures

pub returns-then-row-next : goal.returns-then-row-next
returns-then-row-next c =
    let i = c.loop-at.invariant in
    let it = c.in-Some.ensures.0 in
    no_line i.lines (too_early _ _ i.behind_first it _ _ c.if-row-next.true) (no_end _ _ it)

pub returns-then-not-enter : goal.returns-then-not-enter
returns-then-not-enter c =
    let i = c.loop-at.invariant in
    let it = c.in-Some.ensures.0 in
    no_line i.lines
    (no_book _ _ i.behind_first it _ _ (ap is_book (sym c.enter.ensures.book_after) ∙ sym c.enter.ensures.value ∙ c.if-not-enter.true))
    (no_end _ _ it)

pub loop-at-smaller : goal.loop-at-smaller
loop-at-smaller c =
    omega (arith, c.in-Some.ensures.1, row_long c.in-Some.row.slot c.in-Some.row.strip, c.loop-at-test.true)

pub loop-at-preserved : goal.loop-at-preserved
loop-at-preserved c =
    let i = c.loop-at.invariant in
    let found = c.in-Some.ensures in
    let later = c.if-row-next.false in
    let book = ap is_book (sym c.enter.ensures.book_after) ∙ sym c.enter.ensures.value ∙ c.if-not-enter.false in
    let inside = row_within _ _ i.within found.0 in
    record {
      behind_first = omega (arith, found.1, i.behind_first);
      within = omega (arith, found.1, inside);
      few = omega (arith, i.few, later);
      in_table = omega (arith, found.0.slot);
      long = ap length c.enter.ensures.book_after ∙ with_long c.loop-at.book c.in-Some.row.slot c.in-Some.row.strip ∙ i.long;
      lines = rw (found.1, c.enter.ensures.book_after) (one_more i.lines (record { line = found.0; later = later; book = book }));
    }

pub returns : goal.returns
returns c =
    let l = c.loop-at in
    no_line l.invariant.lines (text_over _ _ c.loop-at-test.false _ _) (no_room c.args.text.now l.at (omega (arith, c.loop-at-test.false)))
