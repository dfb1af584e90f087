-- Laws of the strip book's calls, proved in proofs/Unique.antt.
--   OneBooking   for one renter, strip and book two results are equal: the answer, and the book after it
--   OneRelease   so they are for one renter, slot and book
use Rattle.std.specs.Prelude.{◌≡◌, List, ℤ}
use Rattle.grid.specs.declared.Window.{Window}
use Rattle.strip_book.specs.Books.{BookStrip, ReleaseSlot}
use Rattle.strip_book.specs.declared.BookingAnswer.{BookingAnswer}
use Rattle.strip_book.specs.declared.ReleaseAnswer.{ReleaseAnswer}

abbrev pub OneBooking : Type 0
OneBooking = (renter : ℤ) (w : Window) (a b : BookingAnswer) (before after after' : List ℤ)
    → BookStrip renter w a before after → BookStrip renter w b before after' → (a ≡ b) × (after ≡ after')

abbrev pub OneRelease : Type 0
OneRelease = (renter z : ℤ) (a b : ReleaseAnswer) (before after after' : List ℤ)
    → ReleaseSlot renter z a before after → ReleaseSlot renter z b before after' → (a ≡ b) × (after ≡ after')
