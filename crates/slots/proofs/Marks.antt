-- A mark as it is read: the test of its bits is the test of the number.
use mathlib.Core.Path.{◌≡◌, refl, sym, ap, ◌∙◌}
use mathlib.Core.List.{List}
use Prim.Native.Nat.{ℕ, suc, ◌-◌, ◌*◌, ◌<◌, ◌^◌}
use native.Mathlib.Omega.{arith}
use borrow.Author.Tests.{ne_eqb}
use lib.Dec.{eqb}
use lib.IntN.{ℤ, pos, negsuc}
use lib.ListN.{length, get_or}
use lib.Signed.{mag}
use mir.Syntax.{w32}
use mir.Val.{of_z}
use Rattle.slots.specs.Slots.{slot_at, number_is, in_use, free_slot}
use Rattle.slots.proofs.Places.{slot_at_lem}

pub bits_are : (z : ℤ) (n : ℕ) → mag z < 2 ^ 31 → n < 2 ^ 31 → eqb (of_z w32 z) n ≡ number_is n z
bits_are (pos m) n h k = refl
bits_are (negsuc m) n h k = ne_eqb (2 ^ 32 - suc m) n (λ (e : 2 ^ 32 - suc m ≡ n). omega arith)

-- ---- the slot k of a book
module _ (zs : List ℤ) (k : ℕ) (h : length zs ≡ 320) (i : k < 64) where
  -- its mark is tested by the bits
  pub use_test : mag (get_or zs (5 * k) (pos 0)) < 2 ^ 31 → eqb (of_z w32 (get_or zs (5 * k) (pos 0))) 1 ≡ in_use (slot_at zs k)
  use_test f = bits_are (get_or zs (5 * k) (pos 0)) 1 f (omega arith) ∙ ap in_use (sym (slot_at_lem k zs free_slot (omega arith)))
