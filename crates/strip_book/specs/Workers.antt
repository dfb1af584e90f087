-- What the workers of the calls promise.
--   number_of renter        the number of a renter: 0 or 1
--   Names renter r           the number tells a renter, or is refused by 19
--   booking_answer r         the answer of a booking: the slot, or the refusal
--   release_answer_of r      the answer of a release: it is done, or the refusal
--   Finds renter z zs r      the table's slot of the renter's slot z, where that is in use
use Rattle.std.specs.Prelude.{◌≡◌, true, false, List, ℕ, ◌+◌, ◌<◌, ℤ, pos, nat_abs, Option, MatchOption, Result, Ok, Err, MatchResult}
use Rattle.grid.specs.Refusals.{none, refuse}
use Rattle.grid.specs.declared.Refusal.{Refusal}
use Rattle.strip_book.specs.Books.{unknown_renter, used_at, refused_booking, release_answer}
use Rattle.strip_book.specs.Renters.{is_renter, first_slot, half}
use Rattle.strip_book.specs.declared.Renter.{Renter}
use Rattle.strip_book.specs.declared.Renter.TheVariants.{First, Second}
use Rattle.strip_book.specs.declared.BookingAnswer.{BookingAnswer}
use Rattle.strip_book.specs.declared.ReleaseAnswer.{ReleaseAnswer}

abbrev pub number_of : Renter → ℤ
number_of First = pos 0
number_of Second = pos 1

abbrev pub Names : ℤ → Result Renter Refusal → Type 0
Names z r = MatchResult r (λ renter. number_of renter ≡ z) (λ refusal. (is_renter z ≡ false) × (refusal ≡ refuse unknown_renter 0))

abbrev pub booking_answer : Result ℤ Refusal → BookingAnswer
booking_answer (Ok z) = record { number = 0; place = 0; slot = z }
booking_answer (Err r) = refused_booking r

abbrev pub release_answer_of : Result (Unit {0}) Refusal → ReleaseAnswer
release_answer_of (Ok _) = release_answer none
release_answer_of (Err r) = release_answer r

abbrev pub Finds : ℤ → ℤ → List ℤ → Option ℕ → Type 0
Finds renter z zs r =
    MatchOption r (used_at (half renter zs) z ≡ false)
    (λ k. (used_at (half renter zs) z ≡ true) × (nat_abs z < 32) × (k ≡ first_slot renter + nat_abs z))
