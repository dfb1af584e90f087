-- What a call that is done does, whatever table it is made on, told by the numbers of slots; the laws are proved in proofs/Done.antt.
--   TakesLowest renter w a before after   the booking got a slot of the renter that was free, all his below being in use; its strip is there, the
--                         other slots, also those of the other renter, are as they were
--   LowestFreeSlot        so it is with each booking that is done
--   SlotFreed renter z before after   there was a slot in use with the number z among the renter's; it holds five zeros, the other slots are as they
--                         were
--   FreesTheSlot          so it is with each release that is done
--   used_below renter k zs   how many of the renter's slots below k are in use
--   Lists renter zs a before after    the row of each slot of the renter that is in use stands behind those of his slots below: its number, then its
--                         strip; so many numbers are counted, and the rest of the output is as it was
--   ListsEachStrip        so it is with each listing that is done
use Rattle.std.specs.Prelude.{◌≡◌, true, false, List, ◌∷◌, ℕ, ◌+◌, ◌*◌, ◌<◌, ℤ, pos, length, take, drop}
use Rattle.grid.specs.Table.{sides}
use Rattle.grid.specs.declared.Answer.{Answer}
use Rattle.grid.specs.declared.Window.{Window}
use Rattle.slots.specs.Slots.{slot_of, free_slot, slot_at, in_use, strips_in}
use Rattle.strip_book.specs.Books.{BookStrip, ReleaseSlot}
use Rattle.strip_book.specs.Renters.{first_slot, half}
use Rattle.strip_book.specs.declared.BookingAnswer.{BookingAnswer}
use Rattle.strip_book.specs.declared.ReleaseAnswer.{ReleaseAnswer}
use Rattle.own_strips.specs.OwnStrips.{ListStrips}
use Rattle.bookkeeping.specs.OneCall.{slot_is, SlotInUse}

-- ---- a strip is booked

pub record TakesLowest (renter : ℤ) (w : Window) (a : BookingAnswer) (before after : List ℤ) : Type 0 where
  pub slot : ℕ
  pub answer : a ≡ record { number = 0; place = 0; slot = pos slot }
  pub among : slot < 32
  pub free : in_use (slot_is renter slot before) ≡ false
  pub below : (j : ℕ) → j < slot → in_use (slot_is renter j before) ≡ true
  pub holds : slot_is renter slot after ≡ slot_of 1 w
  pub others : (j : ℕ) → (j ≡ first_slot renter + slot → ⊥) → slot_at after j ≡ slot_at before j
  pub long : length after ≡ length before

abbrev pub LowestFreeSlot : Type 0
LowestFreeSlot = (renter : ℤ) (w : Window) (a : BookingAnswer) (before after : List ℤ) → BookStrip renter w a before after
    → a.number ≡ 0 → TakesLowest renter w a before after

-- ---- a slot is released

pub record SlotFreed (renter z : ℤ) (before after : List ℤ) : Type 0 where
  pub was : SlotInUse renter z before
  pub holds : slot_is renter was.slot after ≡ free_slot
  pub others : (j : ℕ) → (j ≡ first_slot renter + was.slot → ⊥) → slot_at after j ≡ slot_at before j
  pub long : length after ≡ length before

abbrev pub FreesTheSlot : Type 0
FreesTheSlot = (renter z : ℤ) (a : ReleaseAnswer) (before after : List ℤ) → ReleaseSlot renter z a before after
    → a.number ≡ 0 → SlotFreed renter z before after

-- ---- strips are listed

abbrev pub used_below : ℤ → ℕ → List ℤ → ℕ
used_below renter k zs = length (strips_in (take k (half renter zs)))

pub record Lists (renter : ℤ) (zs : List ℤ) (a : Answer) (before after : List ℤ) : Type 0 where
  pub row : (k : ℕ) → k < 32 → in_use (slot_is renter k zs) ≡ true
      → take 5 (drop (5 * used_below renter k zs) after) ≡ pos k ∷ sides (slot_is renter k zs).strip
  pub counted : a.count ≡ 5 * used_below renter 32 zs
  pub rest : drop a.count after ≡ drop a.count before

abbrev pub ListsEachStrip : Type 0
ListsEachStrip = (renter : ℤ) (zs : List ℤ) (a : Answer) (before after : List ℤ) → ListStrips renter zs a before after
    → a.number ≡ 0 → Lists renter zs a before after
