-- There is no such renter, or the rows are those of his half.
use Rattle.std.proofs.Common.{ℕ, ◌+◌, sym, ap, ◌∙◌}
use Rattle.std.proofs.Math.Seq.{slice}
use mir.Facts.{to_z-of_z}
use Rattle.slots.specs.Slots.{slots_of}
use Rattle.book_rows.specs.Rows.{rows_text}
use Rattle.answers.proofs.Answering.{answers_by}
use Rattle.lister.specs.Listings.{or_none}
use Rattle.lister.proofs.Listing.{no_renter, his_rows}
use Rattle.lister.proofs.strips.Goals as goal

pub returns-then-not-is_renter : goal.returns-then-not-is_renter
returns-then-not-is_renter c =
    let n = no_renter c.args.renter c.args.table.now (sym (rw (to_z-of_z c.ranges.renter) at c.if-not-is_renter.ensures)) in
    answers_by (λ _ _ e. (e.0 ∙ n.0, e.1 ∙ n.1)) c.refuse.ensures

pub returns : goal.returns
returns c =
    let zs = c.args.table.now in
    let own = his_rows c.args.renter zs (sym (rw (to_z-of_z c.ranges.renter) at c.if-not-is_renter.ensures)) in
    let begins = rw (to_z-of_z c.ranges.renter) at c.first_slot-from.ensures in
    let rows = ap (λ (n : ℕ). or_none (rows_text n (slice n (n + 32) (slots_of zs)))) begins in
    answers_by (λ _ _ e. (e.0 ∙ rows ∙ own.0, e.1 ∙ own.1)) c.list.ensures
