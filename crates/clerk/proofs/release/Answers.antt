-- The strip was read in the slot that is then released; what the book says decides the text.
use Rattle.std.proofs.Common.{sym, ◌∙◌}
use mir.Facts.{to_z-of_z}
use Rattle.answers.proofs.Answering.{put_answers, answers_by}
use Rattle.clerk.proofs.Texts.{not_released, is_released}
use Rattle.clerk.proofs.Slots.{released_slot, held_row}
use Rattle.clerk.proofs.release.Goals as goal

pub returns-then-a-ne0 : goal.returns-then-a-ne0
returns-then-a-ne0 c =
    let a = c.args in
    let b = c.release_slot-a.result in
    let said = rw (to_z-of_z c.ranges.renter, to_z-of_z c.ranges.slot) at c.release_slot-a.ensures in
    answers_by
    (λ _ _ e. record {
      answer = b;
      released = said;
      says = (e.0 ∙ not_released a.renter a.slot a.table.now b c.if-a-ne0.true, e.1);
    })
    c.refuse.ensures

pub returns : goal.returns
returns c =
    let a = c.args in
    let b = c.release_slot-a.result in
    let said = rw (to_z-of_z c.ranges.renter, to_z-of_z c.ranges.slot) at c.release_slot-a.ensures in
    let has = released_slot a.renter a.table.now c.release_slot-a.new.book a.slot b said c.if-a-ne0.false in
    let own = rw (to_z-of_z c.ranges.renter, to_z-of_z c.ranges.slot) at c.slot_of-k.ensures in
    let row = held_row a.table.now a.renter a.slot c.requires.value has own c.strip_at-w.ensures in
    answers_by
    (λ _ _ e. record {
      answer = b;
      released = said;
      says = (e.0 ∙ row ∙ is_released a.renter a.slot a.table.now b c.if-a-ne0.false, e.1);
    })
    (put_answers _ c.put_row-end.ensures.put (sym c.if-a-ne0.false))
