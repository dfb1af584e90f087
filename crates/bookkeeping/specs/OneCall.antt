-- Laws of one call, whatever table it is made on: when exactly it answers each refusal, told by the numbers of slots, what it says with it, and that it
-- then leaves all as it was. UnknownRenterExactly and NoBookExactly are proved in proofs/Faults.antt, the others in proofs/OneCall.antt. The laws of 2
-- and 3, 17, 16, 18 and 8 suppose a renter that there is and a table that is a book, since 19 and 23 come before them; the last two suppose nothing.
--   slot_is renter k zs    the slot k of the renter in a table
--   HalvesOfTheTable      renter 0's slot k is the table's slot k, and renter 1's is the table's slot 32 + k; of the 32 it is the k-th of his half
--   UnknownRenterExactly  a call answers 19 exactly when the renter is neither 0 nor 1
--   NotABook zs           the four faults of a table, in the words of the rules
--   NoBookExactly         a call of a renter answers 23 exactly when the table has one of them
--   BadWindowNext         on a book, a booking of a strip that 2 or 3 refuses is answered by that refusal, whatever is free or taken
--   SharingSlot w zs      a slot of the table in use, of either renter, that holds a strip that shares area with w
--   HalfFullExactly       on a book, a booking that neither 2 nor 3 refuses answers 17 exactly when all 32 slots of the renter are in use
--   StripTakenExactly     where one of them is free, it answers 16 exactly when there is a sharing slot
--   SlotInUse renter z zs   a slot in use that has the number z among the renter's
--   SlotNotInUseExactly   on a book, a release answers 18 exactly when there is none
--   NoRoomExactly         on a book, a listing answers 8 exactly when the output has less than five numbers for each of the renter's strips, and then
--                         says how many that is
--   place_answered e       the place in an event's answer;  rest_answered e: its slot or its count; 0 of a release, which answers no more
--   SaysNoMore            the place is 0 unless the number is 2 or 8, and the rest is 0 where a call is refused; so 16 does not tell whose strip it is
--   lent_before, lent_after e   what the output of an event's listing held before and after; of other calls nothing
--   RefusedKeeps          a call that answers a refusal, whichever it is, leaves the table and the output as they were. Of a listing, to which the
--                         table is lent for reading alone, the first is part of InBook and nothing new
use Rattle.std.specs.Prelude.{◌≡◌, true, false, List, [], ◌↔◌, ℕ, ◌+◌, ◌*◌, ◌<◌, ℤ, pos, length, get_or}
use Rattle.grid.specs.Calls.{refused_by}
use Rattle.grid.specs.Refusals.{refuse, window_refusal, window_off, no_room}
use Rattle.grid.specs.declared.Answer.{Answer}
use Rattle.grid.specs.declared.Window.{Window}
use Rattle.racks.specs.Areas.{shares_area}
use Rattle.slots.specs.Slots.{Slot, slot_at, in_use, strips_in, is_book, free_slot}
use Rattle.strip_book.specs.Books.{unknown_renter, no_book, half_full, strip_taken, slot_not_in_use, refused_booking, BookStrip, ReleaseSlot}
use Rattle.strip_book.specs.Renters.{is_renter, first_slot, half}
use Rattle.strip_book.specs.declared.BookingAnswer.{BookingAnswer}
use Rattle.strip_book.specs.declared.ReleaseAnswer.{ReleaseAnswer}
use Rattle.own_strips.specs.OwnStrips.{ListStrips}
use Rattle.bookkeeping.specs.Runs.{Event, booking, release, listing, renter_of, number_answered, InBook}

abbrev pub slot_is : ℤ → ℕ → List ℤ → Slot
slot_is renter k zs = slot_at zs (first_slot renter + k)

abbrev pub HalvesOfTheTable : Type 0
HalvesOfTheTable = (k : ℕ) (zs : List ℤ) → (slot_is (pos 0) k zs ≡ slot_at zs k) × (slot_is (pos 1) k zs ≡ slot_at zs (32 + k))
    × ((renter : ℤ) → k < 32 → get_or (half renter zs) k free_slot ≡ slot_is renter k zs)

-- ---- 19, then 23

abbrev pub UnknownRenterExactly : Type 0
UnknownRenterExactly = (e : Event) (before after : List ℤ) → InBook before e after
    → (number_answered e ≡ unknown_renter) ↔ ((renter_of e ≡ pos 0 → ⊥) × (renter_of e ≡ pos 1 → ⊥))

pub data NotABook (zs : List ℤ) : Type 0 where
  another_length : (length zs ≡ 320 → ⊥) → NotABook zs
  another_mark : (k : ℕ) → k < 64 → ((slot_at zs k).mark ≡ pos 0 → ⊥) → ((slot_at zs k).mark ≡ pos 1 → ⊥) → NotABook zs
  refused_strip : (k : ℕ) → k < 64 → (slot_at zs k).mark ≡ pos 1 → ((window_refusal (slot_at zs k).strip).number ≡ 0 → ⊥) → NotABook zs
  shared_area : (j k : ℕ) → j < k → k < 64 → (slot_at zs j).mark ≡ pos 1 → (slot_at zs k).mark ≡ pos 1
      → shares_area (slot_at zs j).strip (slot_at zs k).strip ≡ true → NotABook zs

abbrev pub NoBookExactly : Type 0
NoBookExactly = (e : Event) (before after : List ℤ) → InBook before e after → is_renter (renter_of e) ≡ true
    → (number_answered e ≡ no_book) ↔ NotABook before

-- ---- 2 and 3, 17, then 16

abbrev pub BadWindowNext : Type 0
BadWindowNext = (renter : ℤ) (w : Window) (a : BookingAnswer) (before after : List ℤ) → BookStrip renter w a before after
    → is_renter renter ≡ true → is_book before ≡ true → ((window_refusal w).number ≡ 0 → ⊥)
    → a ≡ refused_booking (window_refusal w)

pub record SharingSlot (w : Window) (zs : List ℤ) : Type 0 where
  pub place : ℕ
  pub among : place < 64
  pub used : in_use (slot_at zs place) ≡ true
  pub shares : shares_area w (slot_at zs place).strip ≡ true

abbrev pub HalfFullExactly : Type 0
HalfFullExactly = (renter : ℤ) (w : Window) (a : BookingAnswer) (before after : List ℤ) → BookStrip renter w a before after
    → is_renter renter ≡ true → is_book before ≡ true → (window_refusal w).number ≡ 0
    → (a.number ≡ half_full) ↔ ((k : ℕ) → k < 32 → in_use (slot_is renter k before) ≡ true)

abbrev pub StripTakenExactly : Type 0
StripTakenExactly = (renter : ℤ) (w : Window) (a : BookingAnswer) (before after : List ℤ) → BookStrip renter w a before after
    → is_renter renter ≡ true → is_book before ≡ true → (window_refusal w).number ≡ 0
    → (k : ℕ) → k < 32 → in_use (slot_is renter k before) ≡ false
    → (a.number ≡ strip_taken) ↔ SharingSlot w before

-- ---- 18

pub record SlotInUse (renter z : ℤ) (zs : List ℤ) : Type 0 where
  pub slot : ℕ
  pub number : z ≡ pos slot
  pub among : slot < 32
  pub used : in_use (slot_is renter slot zs) ≡ true

abbrev pub SlotNotInUseExactly : Type 0
SlotNotInUseExactly = (renter z : ℤ) (a : ReleaseAnswer) (before after : List ℤ) → ReleaseSlot renter z a before after
    → is_renter renter ≡ true → is_book before ≡ true
    → (a.number ≡ slot_not_in_use) ↔ (SlotInUse renter z before → ⊥)

-- ---- 8

abbrev pub NoRoomExactly : Type 0
NoRoomExactly = (renter : ℤ) (zs : List ℤ) (a : Answer) (before after : List ℤ) → ListStrips renter zs a before after
    → is_renter renter ≡ true → is_book zs ≡ true
    → let need = 5 * length (strips_in (half renter zs)) in
    ((a.number ≡ no_room) ↔ (length before < need)) × (a.number ≡ no_room → a ≡ refused_by (refuse no_room need))

-- ---- any refusal

abbrev pub place_answered : Event → ℕ
place_answered (booking renter w a) = a.place
place_answered (release renter z a) = a.place
place_answered (listing renter out a out') = a.place

abbrev pub rest_answered : Event → ℤ
rest_answered (booking renter w a) = a.slot
rest_answered (release renter z a) = pos 0
rest_answered (listing renter out a out') = pos a.count

abbrev pub SaysNoMore : Type 0
SaysNoMore = (e : Event) (before after : List ℤ) → InBook before e after
    → ((number_answered e ≡ window_off → ⊥) → (number_answered e ≡ no_room → ⊥) → place_answered e ≡ 0)
    × ((number_answered e ≡ 0 → ⊥) → rest_answered e ≡ pos 0)

abbrev pub lent_before : Event → List ℤ
lent_before (booking renter w a) = []
lent_before (release renter z a) = []
lent_before (listing renter out a out') = out

abbrev pub lent_after : Event → List ℤ
lent_after (booking renter w a) = []
lent_after (release renter z a) = []
lent_after (listing renter out a out') = out'

abbrev pub RefusedKeeps : Type 0
RefusedKeeps = (e : Event) (before after : List ℤ) → InBook before e after → (number_answered e ≡ 0 → ⊥)
    → (after ≡ before) × (lent_after e ≡ lent_before e)
