-- Runs of calls, with the strip book and on paper.
--   Event                    a call with its answer: a strip is booked, a slot released, or a renter's strips are listed into an output
--   renter_of e               the renter who makes the call
--   number_answered e         the number of the refusal in an event's answer; 0 where the call is done
--   InBook before e after    the call of e, made on the table before, is answered as e says and leaves the table after
--   OnPaper before e after   the same of the paper
--   RunOfCalls Step before events after   the events one after another, each a step from what the one before it has left
--   empty_book                the table of an empty book: 320 zeros
--   FromEmpty events book    the book is what the events leave of the empty book
--   entries_from k ss         the slots in use among ss as entries, the first of ss having the number k
--   entries_of renter zs      the slots in use of a renter's half as entries;  paper_of zs: of both halves
use Rattle.std.specs.Prelude.{◌≡◌, List, [], ◌∷◌, ℕ, suc, ℤ, pos, replicate}
use Rattle.whole.specs.Choice.{when◌then◌else◌}
use Rattle.grid.specs.Calls.{Call}
use Rattle.grid.specs.declared.Answer.{Answer}
use Rattle.grid.specs.declared.Window.{Window}
use Rattle.slots.specs.Slots.{Slot, in_use}
use Rattle.strip_book.specs.Books.{renter_refusal, BookStrip, ReleaseSlot}
use Rattle.strip_book.specs.Renters.{half}
use Rattle.strip_book.specs.declared.BookingAnswer.{BookingAnswer}
use Rattle.strip_book.specs.declared.ReleaseAnswer.{ReleaseAnswer}
use Rattle.own_strips.specs.OwnStrips.{ListStrips}
use Rattle.bookkeeping.specs.PlainList.{Entry, entry, Paper, leaf, entries_listed, answer_booking, after_booking, answer_release, after_release}

-- each begins with the renter, and ends with what is answered; a listing has its output before and after the call
pub data Event : Type 0 where
  booking : ℤ → Window → BookingAnswer → Event
  release : ℤ → ℤ → ReleaseAnswer → Event
  listing : ℤ → List ℤ → Answer → List ℤ → Event

abbrev pub renter_of : Event → ℤ
renter_of (booking renter w a) = renter
renter_of (release renter z a) = renter
renter_of (listing renter out a out') = renter

abbrev pub number_answered : Event → ℕ
number_answered (booking renter w a) = a.number
number_answered (release renter z a) = a.number
number_answered (listing renter out a out') = a.number

abbrev pub InBook : List ℤ → Event → List ℤ → Type 0
InBook before (booking renter w a) after = BookStrip renter w a before after
InBook before (release renter z a) after = ReleaseSlot renter z a before after
InBook before (listing renter out a out') after = ListStrips renter before a out out' × (after ≡ before)

abbrev pub OnPaper : Paper → Event → Paper → Type 0
OnPaper before (booking renter w a) after = (a ≡ answer_booking renter w before) × (after ≡ after_booking renter w before)
OnPaper before (release renter z a) after = (a ≡ answer_release renter z before) × (after ≡ after_release renter z before)
OnPaper before (listing renter out a out') after =
    Call (renter_refusal renter) (λ xs. xs ≡ entries_listed (leaf renter before)) a out out' × (after ≡ before)

pub data RunOfCalls {Book : Type 0} (Step : Book → Event → Book → Type 0) : Book → List Event → Book → Type 0 where
  no_call : {book : Book} → RunOfCalls Step book [] book
  a_call : {before between after : Book} {e : Event} {events : List Event}
      → Step before e between → RunOfCalls Step between events after → RunOfCalls Step before (e ∷ events) after

-- ---- where they begin, and how the two are compared

unfoldable pub empty_book : List ℤ
empty_book = replicate 320 (pos 0)

abbrev pub FromEmpty : List Event → List ℤ → Type 0
FromEmpty events book = RunOfCalls InBook empty_book events book

unfoldable pub entries_from : ℕ → List Slot → List Entry
entries_from k [] = []
entries_from k (s ∷ ss) = when in_use s then entry k s.strip ∷ entries_from (suc k) ss else entries_from (suc k) ss

abbrev pub entries_of : ℤ → List ℤ → List Entry
entries_of renter zs = entries_from 0 (half renter zs)

abbrev pub paper_of : List ℤ → Paper
paper_of zs = record { zero's = entries_of (pos 0) zs; one's = entries_of (pos 1) zs }
