-- What the renter asked tells his answers and his half; so two runs in which he asked the same show him the same.
use mathlib.Core.Path.{◌≡◌, sym, ap, subst, ◌∙◌}
use mathlib.Core.Bool.{true}
use mathlib.Core.List.{List, []}
use mathlib.Core.Logic.{inl, inr}
use native.Mathlib.Omega.{arith}
use lib.IntN.{ℤ}
use Rattle.slots.specs.Slots.{Slot, is_book}
use Rattle.strip_book.specs.declared.BookingAnswer.{BookingAnswer}
use Rattle.bookkeeping.specs.Runs.{Event, no_call, empty_book}
use Rattle.bookkeeping.proofs.Theorems.{stays_a_book}
use Rattle.renters.specs.TwoRuns.{own_events, Asked, TwoRuns}
use Rattle.renters.specs.Laws.{SameAnswers, SameNextListing, SameNextRelease, AlikeButTaken, SameNextBooking, SameHalf}
use Rattle.renters.proofs.Told.{shown, release_told, release_told_lem, listing_told, output_told, listing_told_lem}
use Rattle.renters.proofs.Told.{booking_told, number_told, UnlessTaken, as_told, taken, booking_told_lem}
use Rattle.renters.proofs.Replay.{tells, replay, replayed}

-- ---- two answers to a booking, both as told unless they are 16
alike_but_taken : {b a a' : BookingAnswer} → UnlessTaken b a → UnlessTaken b a' → AlikeButTaken a a'
alike_but_taken (as_told p) (as_told q) = record {
  full = (λ n. number_told (q ∙ sym p) ∙ n, λ n. number_told (p ∙ sym q) ∙ n);
  equal = λ n m. p ∙ sym q;
  one_taken = λ n. inl (number_told (q ∙ sym p) ∙ n);
  other_taken = λ n. inl (number_told (p ∙ sym q) ∙ n);
}
alike_but_taken (as_told p) (taken n z) = record {
  full = (λ m. absurd (omega (arith, number_told p)), λ m. absurd (omega arith));
  equal = λ _ m. absurd (m n);
  one_taken = λ _. inl n;
  other_taken = λ _. inr (number_told p ∙ z);
}
alike_but_taken (taken n z) (as_told q) = record {
  full = (λ m. absurd (omega arith), λ m. absurd (omega (arith, number_told q)));
  equal = λ m _. absurd (m n);
  one_taken = λ _. inr (number_told q ∙ z);
  other_taken = λ _. inl n;
}
alike_but_taken (taken n z) (taken n' z') = record {
  full = (λ m. absurd (omega arith), λ m. absurd (omega arith));
  equal = λ m _. absurd (m n);
  one_taken = λ _. inl n';
  other_taken = λ _. inl n;
}

-- ---- two runs: both are books, and he was and is shown the same
record Alike (renter : ℤ) (es es' : List Event) (book book' : List ℤ) : Type 0 where
  is_book_lem : is_book book ≡ true
  is_book' : is_book book' ≡ true
  events : own_events renter es ≡ own_events renter es'
  slots : shown renter book ≡ shown renter book'

alike : {renter : ℤ} {es es' : List Event} {book book' : List ℤ} → TwoRuns renter es es' book book' → Alike renter es es' book book'
alike {renter} {es} {es'} {book} {book'} t =
    let empty = stays_a_book [] empty_book no_call in
    let p = replayed renter t.one empty in
    let q = replayed renter t.other empty in
    let start = shown renter empty_book in
    record {
      is_book_lem = stays_a_book es book t.one;
      is_book' = stays_a_book es' book' t.other;
      events = p.events ∙ ap (λ (xs : List Asked). tells renter start xs) t.alike ∙ sym q.events;
      slots = p.slots ∙ ap (λ (xs : List Asked). replay start xs) t.alike ∙ sym q.slots;
    }

pub same_answers : SameAnswers
same_answers renter es es' book book' t = (alike t).events

pub same_half : SameHalf
same_half renter es es' book book' t known = let h : shown renter book ≡ shown renter book' = (alike t).slots in rw known at h

-- ---- his next call
pub same_next_listing : SameNextListing
same_next_listing renter es es' book book' t a a' out after after' p p' =
    let h = alike t in
    let q = listing_told_lem renter book h.is_book_lem p in
    let q' = listing_told_lem renter book' h.is_book' p' in (
      q.0 ∙ ap (λ (ss : List Slot). listing_told renter out ss) h.slots ∙ sym q'.0,
      q.1 ∙ ap (λ (ss : List Slot). output_told renter out ss) h.slots ∙ sym q'.1,
    )

pub same_next_release : SameNextRelease
same_next_release renter es es' book book' t z a a' after after' p p' =
    let h = alike t in
    release_told_lem h.is_book_lem p ∙ ap (λ (ss : List Slot). release_told renter z ss) h.slots ∙ sym (release_told_lem h.is_book' p')

pub same_next_booking : SameNextBooking
same_next_booking renter es es' book book' t w a a' after after' p p' =
    let h = alike t in
    let q : UnlessTaken (booking_told renter w (shown renter book)) a = booking_told_lem h.is_book_lem p in
    alike_but_taken (subst (λ ss. UnlessTaken (booking_told renter w ss) a) h.slots q) (booking_told_lem h.is_book' p')
