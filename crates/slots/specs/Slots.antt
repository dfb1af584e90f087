-- A strip book: 64 slots of five numbers, a mark, 1 in use or 0 free, then the strip's window.
--   Slot              a mark and a strip
--   slots_of zs        the slots of a table, five numbers each
--   slot_of m w        the slot with the mark m and the strip w
--   free_slot          a slot that was freed: five zeros
--   slot_at zs k       the slot k of a table; a free one, where there is none of that number
--   number_is n z      the whole number z is n
--   in_use s           the mark of the slot s is 1
--   strips_in ss       the strips that are entered: those of the slots in use, in slot order
--   good_mark s        the mark of the slot s is 0 or 1
--   good_strip w       neither 2 nor 3 would refuse the numbers of w
--   no_two_share ws     no two of the strips ws share area
--   slots_good ss      the marks of the slots ss are good, the strips in use are good, and no two of them share area
--   is_book zs         the table has 320 numbers, and its slots are good
--   lowest_free ss     the place of the first slot that is not in use; how many there are, if all are
--   slot_numbers s     the five numbers of the slot s
use Rattle.std.specs.Prelude.{Bool, true, false, not, ◌&&◌, ◌||◌, List, [], ◌∷◌, ℕ, suc, eqb, ℤ, pos, negsuc, length, get_or}
use Rattle.whole.specs.Choice.{when◌then◌else◌}
use Rattle.grid.specs.Refusals.{window_refusal}
use Rattle.grid.specs.Table.{sides}
use Rattle.grid.specs.declared.Window.{Window}
use Rattle.racks.specs.Areas.{shares_area}
use Rattle.racks.specs.Members.{any, all}

pub record Slot : Type 0 where
  pub mark : ℤ
  pub strip : Window

unfoldable pub slots_of : List ℤ → List Slot
slots_of (m ∷ l ∷ b ∷ r ∷ t ∷ zs) = record { mark = m; strip = record { left = l; bottom = b; right = r; top = t } } ∷ slots_of zs
slots_of (m ∷ l ∷ b ∷ r ∷ []) = []
slots_of (m ∷ l ∷ b ∷ []) = []
slots_of (m ∷ l ∷ []) = []
slots_of (m ∷ []) = []
slots_of [] = []

abbrev pub slot_of : ℕ → Window → Slot
slot_of m w = record { mark = pos m; strip = w }

abbrev pub free_slot : Slot
free_slot = slot_of 0 (record { left = pos 0; bottom = pos 0; right = pos 0; top = pos 0 })

abbrev pub slot_at : List ℤ → ℕ → Slot
slot_at zs k = get_or (slots_of zs) k free_slot

abbrev pub number_is : ℕ → ℤ → Bool
number_is n (pos m) = eqb m n
number_is n (negsuc m) = false

abbrev pub in_use : Slot → Bool
in_use s = number_is 1 s.mark

unfoldable pub strips_in : List Slot → List Window
strips_in [] = []
strips_in (s ∷ ss) = when in_use s then s.strip ∷ strips_in ss else strips_in ss

-- ---- a book

abbrev pub good_mark : Slot → Bool
good_mark s = number_is 0 s.mark || number_is 1 s.mark

abbrev pub good_strip : Window → Bool
good_strip w = eqb (window_refusal w).number 0

unfoldable pub no_two_share : List Window → Bool
no_two_share [] = true
no_two_share (w ∷ ws) = not (any (shares_area w) ws) && no_two_share ws

abbrev pub slots_good : List Slot → Bool
slots_good ss = all good_mark ss && all good_strip (strips_in ss) && no_two_share (strips_in ss)

unfoldable pub is_book : List ℤ → Bool
is_book zs = eqb (length zs) 320 && slots_good (slots_of zs)

-- ---- a free slot

unfoldable pub lowest_free : List Slot → ℕ
lowest_free [] = 0
lowest_free (s ∷ ss) = when in_use s then suc (lowest_free ss) else 0

abbrev pub slot_numbers : Slot → List ℤ
slot_numbers s = s.mark ∷ sides s.strip
