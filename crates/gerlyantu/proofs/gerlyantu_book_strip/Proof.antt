-- `gerlyantu::gerlyantu_book_strip` meets its contract: the renter as it is read is the renter. Assumes nothing.
use mathlib.Core.Path.{subst}
use borrow.Author.Rules.{rules}
use lib.IntN.{ℤ}
use mir.Facts.{to_z-of_z}
use Rattle.strip_book.specs.Books.{BookStrip}
use Rattle.gerlyantu.proofs.gerlyantu_book_strip.Statement.{statement}
use Rattle.gerlyantu.proofs.gerlyantu_book_strip.Tie as tie

book-strip-requires : tie.Need-book_strip-requires
book-strip-requires c κs = search rules

same_length : tie.Need-shape_of-book
same_length c = search rules

returns : tie.Need-returns
returns c =
    let s = c.before.before.before in
    let booked = c.before.book_strip in
    let promised : ℤ → Type 0 = λ renter. BookStrip renter s.args.w booked.result s.args.book.now booked.new.book in
    subst promised (to_z-of_z s.ranges.renter) booked.ensures

pub gerlyantu_book_strip_spec : {M : Type 1} → statement M
gerlyantu_book_strip_spec = tie.close (tie.spec book-strip-requires same_length returns)
