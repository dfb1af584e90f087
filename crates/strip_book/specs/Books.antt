-- What the calls of the strip book promise. Their memory is the lent table, before and after.
--   unknown_renter, no_book, half_full, strip_taken, slot_not_in_use   the numbers of the book's own refusals; the place of each is 0
--   renter_refusal renter   19 where there is no such renter
--   table_refusal zs        23 where the table zs is no book
--   none_free renter zs     17 where all slots of the renter's half are in use
--   clash w zs             16 where an entered strip, in either half, shares area with w
--   used_at ss z            the slot z is one of ss, and in use
--   slot_refusal renter z zs   18 where the slot z of the renter's half is not in use, or there is none of that number
--   booking_refusal renter w zs   what booking refuses: 19, 23, 2, 3, 17, then 16
--   release_refusal renter z zs   what releasing refuses: 19, 23, then 18
--   refused_booking r       the answer of a booking that refuses by r;  booked_in k: of one that enters the strip in the renter's slot k
--   release_answer r        the answer of a release: it refuses by r, or is done where r refuses nothing
--   Booked renter w a before after   the lowest free slot of the renter's half is answered, and then holds a mark of 1 and the strip w; the rest is
--                          as it was
--   BookStrip renter w a before after   what `strip_book::book_strip` promises of its answer and of the book before and after
--   Released renter z a before after   the slot z of the renter's half then holds five zeros; the rest is as it was
--   ReleaseSlot renter z a before after   what `strip_book::release_slot` promises
use Rattle.std.specs.Prelude.{◌≡◌, Bool, false, List, [], ◌∷◌, ℕ, ◌+◌, ◌*◌, ℤ, pos, negsuc, nat_abs, get_or}
use Rattle.std.proofs.lemmas.List.Edits.{sets}
use Rattle.whole.specs.Choice.{when◌then◌else◌}
use Rattle.grid.specs.Calls.{Lent}
use Rattle.grid.specs.Refusals.{first, none, refuse, window_refusal}
use Rattle.grid.specs.declared.Refusal.{Refusal}
use Rattle.grid.specs.declared.Window.{Window}
use Rattle.racks.specs.Areas.{shares_area}
use Rattle.racks.specs.Members.{any, all}
use Rattle.slots.specs.Slots.{Slot, slots_of, strips_in, in_use, is_book, lowest_free, slot_numbers, slot_of, free_slot}
use Rattle.strip_book.specs.Renters.{is_renter, first_slot, half}
use Rattle.strip_book.specs.declared.BookingAnswer.{BookingAnswer}
use Rattle.strip_book.specs.declared.ReleaseAnswer.{ReleaseAnswer}

-- No.                     given exactly when, unless one that is tested before it applies
abbrev pub unknown_renter : ℕ
unknown_renter = 19  --     the renter is neither 0 nor 1

abbrev pub no_book : ℕ
no_book = 23  --            the table has not 320 numbers, or a mark is neither 0 nor 1, or a slot in use holds
    --                     numbers that 2 or 3 would refuse, or two slots in use share area

abbrev pub half_full : ℕ
half_full = 17  --          all 32 slots of the renter are in use

abbrev pub strip_taken : ℕ
strip_taken = 16  --        an entered strip, of either renter, shares area with the new one

abbrev pub slot_not_in_use : ℕ
slot_not_in_use = 18  --      the slot of the renter is not in use or not in 0 to 31

-- ---- refusals

unfoldable pub renter_refusal : ℤ → Refusal
renter_refusal renter = when is_renter renter then none else refuse unknown_renter 0

unfoldable pub table_refusal : List ℤ → Refusal
table_refusal zs = when is_book zs then none else refuse no_book 0

unfoldable pub none_free : ℤ → List ℤ → Refusal
none_free renter zs = when all in_use (half renter zs) then refuse half_full 0 else none

unfoldable pub clash : Window → List ℤ → Refusal
clash w zs = when any (shares_area w) (strips_in (slots_of zs)) then refuse strip_taken 0 else none

abbrev pub used_at : List Slot → ℤ → Bool
used_at ss (pos k) = in_use (get_or ss k free_slot)
used_at ss (negsuc k) = false

unfoldable pub slot_refusal : ℤ → ℤ → List ℤ → Refusal
slot_refusal renter z zs = when used_at (half renter zs) z then none else refuse slot_not_in_use 0

unfoldable pub booking_refusal : ℤ → Window → List ℤ → Refusal
booking_refusal renter w zs = first (renter_refusal renter ∷ table_refusal zs ∷ window_refusal w ∷ none_free renter zs ∷ clash w zs ∷ [])

unfoldable pub release_refusal : ℤ → ℤ → List ℤ → Refusal
release_refusal renter z zs = first (renter_refusal renter ∷ table_refusal zs ∷ slot_refusal renter z zs ∷ [])

-- ---- a strip is booked

abbrev pub refused_booking : Refusal → BookingAnswer
refused_booking r = record { number = r.number; place = r.place; slot = pos 0 }

abbrev pub booked_in : ℕ → BookingAnswer
booked_in k = record { number = 0; place = 0; slot = pos k }

pub record Booked (renter : ℤ) (w : Window) (a : BookingAnswer) (before after : List ℤ) : Type 0 where
  pub answer : a ≡ booked_in (lowest_free (half renter before))
  pub book : after ≡ sets before (5 * (first_slot renter + lowest_free (half renter before))) (slot_numbers (slot_of 1 w))

abbrev pub BookStrip : ℤ → Window → BookingAnswer → List ℤ → List ℤ → Type 0
BookStrip renter w a before after = Lent refused_booking (booking_refusal renter w before) (Booked renter w) a before after

-- ---- a slot is released

abbrev pub release_answer : Refusal → ReleaseAnswer
release_answer r = record { number = r.number; place = r.place }

pub record Released (renter : ℤ) (z : ℤ) (a : ReleaseAnswer) (before after : List ℤ) : Type 0 where
  pub answer : a ≡ release_answer none
  pub book : after ≡ sets before (5 * (first_slot renter + nat_abs z)) (slot_numbers free_slot)

abbrev pub ReleaseSlot : ℤ → ℤ → ReleaseAnswer → List ℤ → List ℤ → Type 0
ReleaseSlot renter z a before after = Lent release_answer (release_refusal renter z before) (Released renter z) a before after
