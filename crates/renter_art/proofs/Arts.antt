-- A slot shows its strip where it is in use, and nothing where it is free; the strips of slots are put one after another.
use mathlib.Core.Path.{◌≡◌, ap}
use mathlib.Core.Bool.{true, false}
use mathlib.Core.List.{List, []}
use Prim.Native.Nat.{ℕ, ◌+◌, ◌*◌, ◌≤◌, ◌<◌}
use native.Mathlib.Numerals.{add-one}
use native.Mathlib.Omega.{arith}
use lib.IntN.{ℤ}
use lib.ListN.{length}
use Rattle.text.specs.Pages.{Put}
use Rattle.text.proofs.Puts.{put_then}
use Rattle.slots.specs.Slots.{Slot, slot_at, in_use, free_slot}
use Rattle.slots.specs.Workers.{strip_in}
use Rattle.slots.proofs.Places.{slot_at_lem}
use Rattle.strip_art.specs.StripArt.{strip_art}
use Rattle.renter_art.specs.RenterArt.{slot_art, slot_arts}

module _ (r : ℕ) (zs : List ℤ) where
  pub art_free : (k : ℕ) → in_use (slot_at zs (32 * r + k)) ≡ false → slot_art r zs k ≡ []
  unfolding slot_art
  art_free k e = rw e

  pub art_used : (k : ℕ) → r ≤ 1 → k < 32 → length zs ≡ 320 → in_use (slot_at zs (32 * r + k)) ≡ true
      → slot_art r zs k ≡ strip_art r k (strip_in zs (5 * (32 * r + k)))
  unfolding slot_art
  art_used k low h long e = rw e (ap (λ (s : Slot). strip_art r k s.strip) (slot_at_lem (32 * r + k) zs free_slot (omega arith)))

  module _ {before after : List ℕ} {at end : ℕ} where
    pub arts_on : (k : ℕ) {next : List ℕ} {to : ℕ} → Put before after at end (slot_arts r zs k) → Put after next end to (slot_art r zs k)
        → Put before next at to (slot_arts r zs (k + 1))
    unfolding slot_arts
    arts_on k p q = rw add-one (put_then p q)
