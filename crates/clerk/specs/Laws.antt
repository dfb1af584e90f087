-- Laws of the answers, proved in proofs/Unique.antt. What `strips` and `show` answer needs none: it is a function of the renter and the table.
--   OneBookingAnswer   two results of one booking on one table are equal: the number, the text, and the table after it
--   OneReleaseAnswer   so are those of one release
use Rattle.std.specs.Prelude.{◌≡◌, List, ℕ, ℤ}
use Rattle.intake.specs.declared.WindowMm.{WindowMm}
use Rattle.clerk.specs.Commands.{BooksAs, ReleasesAs}

abbrev pub OneBookingAnswer : Type 0
OneBookingAnswer = (renter : ℤ) (mm : WindowMm) (before after after' : List ℤ) (text text' : List ℕ) (number number' : ℕ)
    → BooksAs renter mm before after text number → BooksAs renter mm before after' text' number'
    → (number ≡ number') × (text ≡ text') × (after ≡ after')

abbrev pub OneReleaseAnswer : Type 0
OneReleaseAnswer = (renter z : ℤ) (before after after' : List ℤ) (text text' : List ℕ) (number number' : ℕ)
    → ReleasesAs renter z before after text number → ReleasesAs renter z before after' text' number'
    → (number ≡ number') × (text ≡ text') × (after ≡ after')
