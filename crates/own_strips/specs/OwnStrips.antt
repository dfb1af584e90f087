-- What listing a renter's own strips promises: for each, in slot order, its slot and its four numbers. The table is lent for reading alone, as the
-- type of the function says.
--   listed_from k ss      the slots in use among ss, the first of ss being slot k: of each its slot, then left bottom right top
--   listing_refusal renter zs   what listing refuses: 19, then 23
--   listing_answer r      the answer of a listing: how many numbers it has written, or the refusal
--   ListStrips renter zs a before after   what `own_strips::list_strips` promises of the table zs, its answer, and its output before and after
use Rattle.std.specs.Prelude.{◌≡◌, List, [], ◌∷◌, ◌++◌, ℕ, suc, ℤ, pos, Result, Ok, Err}
use Rattle.whole.specs.Choice.{when◌then◌else◌}
use Rattle.grid.specs.Calls.{Call, refused_by}
use Rattle.grid.specs.Refusals.{first}
use Rattle.grid.specs.Table.{sides}
use Rattle.grid.specs.declared.Answer.{Answer}
use Rattle.grid.specs.declared.Refusal.{Refusal}
use Rattle.slots.specs.Slots.{Slot, in_use}
use Rattle.strip_book.specs.Books.{renter_refusal, table_refusal}
use Rattle.strip_book.specs.Renters.{half}

unfoldable pub listed_from : ℕ → List Slot → List ℤ
listed_from k [] = []
listed_from k (s ∷ ss) = when in_use s then pos k ∷ sides s.strip ++ listed_from (suc k) ss else listed_from (suc k) ss

unfoldable pub listing_refusal : ℤ → List ℤ → Refusal
listing_refusal renter zs = first (renter_refusal renter ∷ table_refusal zs ∷ [])

abbrev pub listing_answer : Result ℕ Refusal → Answer
listing_answer (Ok n) = record { number = 0; place = 0; count = n }
listing_answer (Err r) = refused_by r

-- A case of `Call`, which says once what every call does with a lent output: 8 with the numbers needed, where they have no room.
abbrev pub ListStrips : ℤ → List ℤ → Answer → List ℤ → List ℤ → Type 0
ListStrips renter zs = Call (listing_refusal renter zs) (λ xs. xs ≡ listed_from 0 (half renter zs))
