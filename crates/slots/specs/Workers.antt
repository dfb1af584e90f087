-- What the workers over a table promise.
--   slot_in zs p        the slot whose mark stands at the place p of a table;  strip_in zs p: its strip
--   slots_from p zs     the slots from the place p on
--   each_good ss        the marks of the slots ss and their strips in use are good, whether or not they share area
--   Gathered ss n rack   the slots ss are good each by itself, and their n strips are on the rack
--   OnRack ss n rack   the slots ss are good, and their n strips are on the rack
--   Gathers ss r rack  the test of the slots ss, each by itself, finds r: None where one of them is not good, or how many strips they have, which are
--                      then on the rack
--   BookTest zs r rack   the test of a whole table finds r: None where it is no book, or how many strips it has, which are then on the rack
use Rattle.std.specs.Prelude.{◌≡◌, Bool, true, false, ◌&&◌, List, ℕ, ◌+◌, ℤ, pos, length, drop, get_or, Option, MatchOption}
use Rattle.grid.specs.declared.Window.{Window}
use Rattle.racks.specs.Members.{all}
use Rattle.racks.specs.Racks.{Carries}
use Rattle.slots.specs.Slots.{Slot, slots_of, strips_in, good_mark, good_strip, slots_good, is_book}

abbrev pub strip_in : List ℤ → ℕ → Window
strip_in zs p =
    record { left = get_or zs (p + 1) (pos 0); bottom = get_or zs (p + 2) (pos 0); right = get_or zs (p + 3) (pos 0); top = get_or zs (p + 4) (pos 0) }

abbrev pub slot_in : List ℤ → ℕ → Slot
slot_in zs p = record { mark = get_or zs p (pos 0); strip = strip_in zs p }

abbrev pub slots_from : ℕ → List ℤ → List Slot
slots_from p zs = slots_of (drop p zs)

abbrev pub each_good : List Slot → Bool
each_good ss = all good_mark ss && all good_strip (strips_in ss)

pub record Gathered (ss : List Slot) (n : ℕ) (rack : List ℤ) : Type 0 where
  pub good : each_good ss ≡ true
  pub count : n ≡ length (strips_in ss)
  pub holds : Carries rack (strips_in ss)

pub record OnRack (ss : List Slot) (n : ℕ) (rack : List ℤ) : Type 0 where
  pub good : slots_good ss ≡ true
  pub count : n ≡ length (strips_in ss)
  pub holds : Carries rack (strips_in ss)

abbrev pub Gathers : List Slot → Option ℕ → List ℤ → Type 0
Gathers ss r rack = MatchOption r (each_good ss ≡ false) (λ n. Gathered ss n rack)

abbrev pub BookTest : List ℤ → Option ℕ → List ℤ → Type 0
BookTest zs r rack = MatchOption r (is_book zs ≡ false) (λ n. (is_book zs ≡ true) × OnRack (slots_of zs) n rack)
