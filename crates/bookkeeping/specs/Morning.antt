-- A morning of the two renters with the strip book, as an example.
--   strip_of l b r t       the strip from l to r and from b to t
--   six_calls a b c d e out f out'   six calls, and their answers: renter 0 books a strip, renter 1 one that touches it and one that shares area with
--                         both, then renter 0 releases his, and renter 1 books a smaller one in its place and lists his strips
--   MorningAnswers a b c d e out f out'   the answers, and the listing's output
--   Morning               whoever makes these calls on the empty book, with room for the listing, gets these answers
use Rattle.std.specs.Prelude.{◌≡◌, List, [], ◌∷◌, ◌++◌, ℕ, ◌≤◌, ℤ, pos, length, drop}
use Rattle.grid.specs.Refusals.{none, refuse}
use Rattle.grid.specs.Table.{sides}
use Rattle.grid.specs.declared.Answer.{Answer}
use Rattle.grid.specs.declared.Window.{Window}
use Rattle.strip_book.specs.Books.{strip_taken, booked_in, refused_booking, release_answer}
use Rattle.strip_book.specs.declared.BookingAnswer.{BookingAnswer}
use Rattle.strip_book.specs.declared.ReleaseAnswer.{ReleaseAnswer}
use Rattle.bookkeeping.specs.Runs.{Event, booking, release, listing, FromEmpty}

abbrev pub strip_of : ℕ → ℕ → ℕ → ℕ → Window
strip_of l b r t = record { left = pos l; bottom = pos b; right = pos r; top = pos t }

abbrev pub six_calls : BookingAnswer → BookingAnswer → BookingAnswer → ReleaseAnswer → BookingAnswer → List ℤ → Answer → List ℤ → List Event
six_calls a b c d e out f out' =
    booking (pos 0) (strip_of 0 0 10 10) a
    ∷ booking (pos 1) (strip_of 10 0 20 10) b
    ∷ booking (pos 1) (strip_of 5 5 15 15) c
    ∷ release (pos 0) (pos 0) d
    ∷ booking (pos 1) (strip_of 0 0 5 5) e
    ∷ listing (pos 1) out f out'
    ∷ []

pub record MorningAnswers (a b c : BookingAnswer) (d : ReleaseAnswer) (e : BookingAnswer) (out : List ℤ) (f : Answer) (out' : List ℤ) : Type 0 where
  pub entered : a ≡ booked_in 0
  pub touching : b ≡ booked_in 0
  pub sharing : c ≡ refused_booking (refuse strip_taken 0)
  pub released : d ≡ release_answer none
  pub again : e ≡ booked_in 1
  pub listed : f ≡ record { number = 0; place = 0; count = 10 }
  pub rows : out' ≡ (pos 0 ∷ sides (strip_of 10 0 20 10)) ++ (pos 1 ∷ sides (strip_of 0 0 5 5)) ++ drop 10 out

abbrev pub Morning : Type 0
Morning = (a b c : BookingAnswer) (d : ReleaseAnswer) (e : BookingAnswer) (out : List ℤ) (f : Answer) (out' book : List ℤ)
    → 10 ≤ length out → FromEmpty (six_calls a b c d e out f out') book → MorningAnswers a b c d e out f out'
