-- The two renters of a book, 0 and 1. Each has a half of the slots: renter 0 the table's slots 0 to 31, renter 1 the slots 32 to 63. In calls and
-- answers a renter's own slots are 0 to 31. Of other numbers than 0 and 1 `first_slot` and `half` say nothing: every call refuses them by 19 before it
-- looks at a half.
--   is_renter renter     there is a renter of this number
--   first_slot renter    the table's slot that is the renter's slot 0; the renter's slot s is s slots further
--   half renter zs      the renter's slots of a table
use Rattle.std.specs.Prelude.{Bool, ◌||◌, List, ℕ, ◌+◌, ◌*◌, ℤ, nat_abs}
use Rattle.std.proofs.Math.Seq.{slice}
use Rattle.slots.specs.Slots.{Slot, slots_of, number_is}

abbrev pub is_renter : ℤ → Bool
is_renter renter = number_is 0 renter || number_is 1 renter

abbrev pub first_slot : ℤ → ℕ
first_slot renter = 32 * nat_abs renter

abbrev pub half : ℤ → List ℤ → List Slot
half renter zs = slice (first_slot renter) (first_slot renter + 32) (slots_of zs)
