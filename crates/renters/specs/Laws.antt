-- The laws that keep the renters apart, proved in proofs/Theorems.antt and, the last, in proofs/Pair.antt. They are about two runs that differ only in
-- calls that the renter did not make, and in which all his bookings were answered alike. The laws of the next call judge one call more, of which
-- nothing is supposed.
--   SameAnswers          each listing of his in the runs, with its whole output, and each release is answered alike in both
--   SameNextListing      so is each listing that he may make next, with its whole output
--   SameNextRelease      and each release that he may make next
--   AlikeButTaken a a'   17 is answered in the one exactly when in the other; where neither answers 16, the answers are equal; and where one answers
--                        16, the other does or is booked
--   SameNextBooking      so it is with each booking that he may make next
--   SameHalf             the numbers of his half are the same
--   TakenMayDiffer       16 may differ: two such runs, and a strip that is taken after the one and booked after the other
use Rattle.std.specs.Prelude.{◌≡◌, true, List, ◌↔◌, ◌⊎◌, ℤ}
use Rattle.grid.specs.declared.Answer.{Answer}
use Rattle.grid.specs.declared.Window.{Window}
use Rattle.strip_book.specs.Books.{half_full, strip_taken, BookStrip, ReleaseSlot}
use Rattle.strip_book.specs.Renters.{is_renter, half}
use Rattle.strip_book.specs.declared.BookingAnswer.{BookingAnswer}
use Rattle.strip_book.specs.declared.ReleaseAnswer.{ReleaseAnswer}
use Rattle.own_strips.specs.OwnStrips.{ListStrips}
use Rattle.bookkeeping.specs.Runs.{Event}
use Rattle.renters.specs.TwoRuns.{own_events, TwoRuns}

-- ---- what he was answered, and what he is answered next

abbrev pub SameAnswers : Type 0
SameAnswers = (renter : ℤ) (es es' : List Event) (book book' : List ℤ) → TwoRuns renter es es' book book'
    → own_events renter es ≡ own_events renter es'

abbrev pub SameNextListing : Type 0
SameNextListing = (renter : ℤ) (es es' : List Event) (book book' : List ℤ) → TwoRuns renter es es' book book'
    → (a a' : Answer) (out after after' : List ℤ) → ListStrips renter book a out after → ListStrips renter book' a' out after'
    → (a ≡ a') × (after ≡ after')

abbrev pub SameNextRelease : Type 0
SameNextRelease = (renter : ℤ) (es es' : List Event) (book book' : List ℤ) → TwoRuns renter es es' book book'
    → (z : ℤ) (a a' : ReleaseAnswer) (after after' : List ℤ) → ReleaseSlot renter z a book after → ReleaseSlot renter z a' book' after'
    → a ≡ a'

pub record AlikeButTaken (a a' : BookingAnswer) : Type 0 where
  pub full : (a.number ≡ half_full) ↔ (a'.number ≡ half_full)
  pub equal : (a.number ≡ strip_taken → ⊥) → (a'.number ≡ strip_taken → ⊥) → a ≡ a'
  pub one_taken : a.number ≡ strip_taken → (a'.number ≡ strip_taken) ⊎ (a'.number ≡ 0)
  pub other_taken : a'.number ≡ strip_taken → (a.number ≡ strip_taken) ⊎ (a.number ≡ 0)

abbrev pub SameNextBooking : Type 0
SameNextBooking = (renter : ℤ) (es es' : List Event) (book book' : List ℤ) → TwoRuns renter es es' book book'
    → (w : Window) (a a' : BookingAnswer) (after after' : List ℤ) → BookStrip renter w a book after → BookStrip renter w a' book' after'
    → AlikeButTaken a a'

-- ---- what he has

abbrev pub SameHalf : Type 0
SameHalf = (renter : ℤ) (es es' : List Event) (book book' : List ℤ) → TwoRuns renter es es' book book'
    → is_renter renter ≡ true → half renter book ≡ half renter book'

-- ---- what he may learn

pub record TakenMayDiffer : Type 0 where
  pub renter : ℤ
  pub es : List Event
  pub es' : List Event
  pub book : List ℤ
  pub book' : List ℤ
  pub runs : TwoRuns renter es es' book book'
  pub strip : Window
  pub a : BookingAnswer
  pub a' : BookingAnswer
  pub after : List ℤ
  pub after' : List ℤ
  pub call : BookStrip renter strip a book after
  pub call' : BookStrip renter strip a' book' after'
  pub taken : a.number ≡ strip_taken
  pub booked : a'.number ≡ 0
