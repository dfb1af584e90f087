-- What the book says decides the text; where it is done, the slot is one of the renter's.
use Rattle.std.proofs.Common.{◌≡◌, ℕ, ◌+◌, sym, ap, ◌∙◌, arith, rules}
use lib.IntN.{nat_abs}
use mir.Syntax.{w32}
use mir.Val.{to_z, of_z}
use mir.Facts.{to_z-of_z}
use Rattle.strip_book.specs.Renters.{first_slot}
use Rattle.strip_lines.specs.Lines.{row_text}
use Rattle.answers.proofs.Answering.{put_answers, answers_by}
use Rattle.clerk.proofs.Texts.{not_booked, is_booked}
use Rattle.clerk.proofs.Slots.{booked_slot, in_table}
use Rattle.clerk.proofs.book_on_grid.Goals as goal

pub returns-then-a-ne0 : goal.returns-then-a-ne0
returns-then-a-ne0 c =
    let b = c.book_strip-a.result in
    let f = c.refuse_strip.ensures in
    let booked = rw (to_z-of_z c.ranges.renter) at c.book_strip-a.ensures in
    record {
      fits = f.fits;
      says = record { answer = b; booked = booked; says = (f.says.0 ∙ not_booked c.args.renter c.args.w b c.if-a-ne0.true, f.says.1) };
    }

pub first_slot-requires : goal.first_slot-requires
first_slot-requires c = (booked_slot _ _ _ _ _ c.book_strip-a.ensures c.if-a-ne0.false).known

pub put_row-end-requires-clause-k_bound : goal.put_row-end-requires-clause-k_bound
put_row-end-requires-clause-k_bound c =
    let z = c.book_strip-a.result.slot in
    let same : to_z w32 (of_z w32 z) ≡ z = search rules in
    omega (arith, c.first_slot.ensures, ap nat_abs same, in_table _ _ (booked_slot _ _ _ _ _ c.book_strip-a.ensures c.if-a-ne0.false))

pub returns : goal.returns
returns c =
    let b = c.book_strip-a.result in
    let same : to_z w32 (of_z w32 b.slot) ≡ b.slot = search rules in
    let begins = rw (to_z-of_z c.ranges.renter) at c.first_slot.ensures in
    let slot : c.first_slot.result + nat_abs (to_z w32 (of_z w32 b.slot)) ≡ first_slot c.args.renter + nat_abs b.slot =
    omega (arith, begins, ap nat_abs same) in
    answers_by
    (λ _ _ e. record {
      answer = b;
      booked = rw (to_z-of_z c.ranges.renter) at c.book_strip-a.ensures;
      says = (e.0 ∙ ap (λ (n : ℕ). row_text n c.args.w) slot ∙ is_booked c.args.renter c.args.w b c.if-a-ne0.false, e.1);
    })
    (put_answers _ c.put_row-end.ensures.put (sym c.if-a-ne0.false))
