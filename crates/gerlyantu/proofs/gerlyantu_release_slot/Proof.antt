-- `gerlyantu::gerlyantu_release_slot` meets its contract: renter and slot as they are read are renter and slot. Assumes nothing.
use mathlib.Core.Path.{subst₂}
use borrow.Author.Rules.{rules}
use lib.IntN.{ℤ}
use mir.Facts.{to_z-of_z}
use Rattle.strip_book.specs.Books.{ReleaseSlot}
use Rattle.gerlyantu.proofs.gerlyantu_release_slot.Statement.{statement}
use Rattle.gerlyantu.proofs.gerlyantu_release_slot.Tie as tie

release-slot-requires : tie.Need-release_slot-requires
release-slot-requires c κs = search rules

same_length : tie.Need-shape_of-book
same_length c = search rules

returns : tie.Need-returns
returns c =
    let s = c.before.before.before in
    let released = c.before.release_slot in
    let promised : ℤ → ℤ → Type 0 = λ renter slot. ReleaseSlot renter slot released.result s.args.book.now released.new.book in
    subst₂ promised (to_z-of_z s.ranges.renter) (to_z-of_z s.ranges.slot) released.ensures

pub gerlyantu_release_slot_spec : {M : Type 1} → statement M
gerlyantu_release_slot_spec = tie.close (tie.spec release-slot-requires same_length returns)
