-- Two runs of calls that differ only in calls that one renter did not make.
--   same_number x y         the whole numbers x and y are the same
--   own_events renter es    of the events es those of the renter's calls, with their answers
--   Asked                  what a call asks: a booking its strip, and with it what was answered; a release its slot; a listing the output that it
--                          lends, as it is before the call. What a release and a listing are answered, and what a listing writes, is not in it
--   asks e                 what the call of the event e asks
--   asked renter es        what the renter asked in the events es, one call after the other, with the answers to his bookings
--   TwoRuns renter es es' book book'   two runs from the empty book, in which the renter made the same calls and got the same answers to his
--                          bookings; the calls of others may be any, as many and between which of his calls they like, also of renters that there
--                          are not
use Rattle.std.specs.Prelude.{◌≡◌, Bool, false, List, [], ◌∷◌, map, eqb, ℤ, pos, negsuc}
use Rattle.whole.specs.Choice.{when◌then◌else◌}
use Rattle.grid.specs.declared.Window.{Window}
use Rattle.strip_book.specs.declared.BookingAnswer.{BookingAnswer}
use Rattle.bookkeeping.specs.Runs.{Event, booking, release, listing, renter_of, FromEmpty}

abbrev pub same_number : ℤ → ℤ → Bool
same_number (pos m) (pos n) = eqb m n
same_number (negsuc m) (negsuc n) = eqb m n
same_number (pos m) (negsuc n) = false
same_number (negsuc m) (pos n) = false

unfoldable pub own_events : ℤ → List Event → List Event
own_events renter [] = []
own_events renter (e ∷ es) = when same_number (renter_of e) renter then e ∷ own_events renter es else own_events renter es

pub data Asked : Type 0 where
  to_book : Window → BookingAnswer → Asked
  to_release : ℤ → Asked
  to_list : List ℤ → Asked

abbrev pub asks : Event → Asked
asks (booking renter w a) = to_book w a
asks (release renter z a) = to_release z
asks (listing renter out a out') = to_list out

abbrev pub asked : ℤ → List Event → List Asked
asked renter es = map asks (own_events renter es)

pub record TwoRuns (renter : ℤ) (es es' : List Event) (book book' : List ℤ) : Type 0 where
  pub one : FromEmpty es book
  pub other : FromEmpty es' book'
  pub alike : asked renter es ≡ asked renter es'
