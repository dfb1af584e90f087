-- The lowest free slot is free, those below it are in use, and it is one of them unless all are in use; a loop over the slots finds it.
use mathlib.Core.Path.{◌≡◌, refl, ap, ◌∙◌}
use mathlib.Core.Bool.{Bool, true, false, ◌&&◌}
use mathlib.Core.List.{List, [], ◌∷◌}
use Prim.Native.Nat.{ℕ, zero, suc, ◌+◌, ◌<◌, ◌≤◌}
use native.Mathlib.Omega.{arith}
use lib.IntN.{ℤ}
use lib.ListN.{length, take, get_or, length-take, drop_of_length-le}
use lib.Seq.{slice, slice-cons}
use Rattle.whole.specs.Choice.{when◌then◌else◌}
use Rattle.whole.proofs.Comparisons.{ff_tt, tt_ff}
use Rattle.racks.specs.Members.{all}
use Rattle.slots.specs.Slots.{Slot, slots_of, in_use, lowest_free, free_slot}
use Rattle.slots.proofs.Places.{slots_count}

pub lowest_free_lem : (ss : List Slot) → in_use (get_or ss (lowest_free ss) free_slot) ≡ false
unfolding lowest_free
lowest_free_lem [] = refl
lowest_free_lem (s ∷ ss) = go (in_use s) refl (lowest_free_lem ss)
  where
    go : (b : Bool) → in_use s ≡ b → in_use (get_or ss (lowest_free ss) free_slot) ≡ false
        → in_use (get_or (s ∷ ss) (when b then suc (lowest_free ss) else 0) free_slot) ≡ false
    go true e f = f
    go false e f = e

pub used_below : (ss : List Slot) (j : ℕ) → j < lowest_free ss → in_use (get_or ss j free_slot) ≡ true
unfolding lowest_free
used_below [] j h = absurd (omega arith)
used_below (s ∷ ss) j h = go (in_use s) refl j h (used_below ss)
  where
    go : (b : Bool) → in_use s ≡ b → (j : ℕ) → j < (when b then suc (lowest_free ss) else 0)
        → ((i : ℕ) → i < lowest_free ss → in_use (get_or ss i free_slot) ≡ true) → in_use (get_or (s ∷ ss) j free_slot) ≡ true
    go true e zero h f = e
    go true e (suc j) h f = f j (omega arith)
    go false e j h f = absurd (omega arith)

pub free_among : (ss : List Slot) → all in_use ss ≡ false → lowest_free ss < length ss
unfolding lowest_free all
free_among [] e = absurd (tt_ff e)
free_among (s ∷ ss) e = go (in_use s) e (free_among ss)
  where
    go : (b : Bool) → (b && all in_use ss) ≡ false → (all in_use ss ≡ false → lowest_free ss < length ss)
        → (when b then suc (lowest_free ss) else 0) < suc (length ss)
    go true e f = omega (arith, f e)
    go false e f = omega arith

pub lowest_none : (ss : List Slot) → all in_use ss ≡ true → lowest_free ss ≡ length ss
unfolding all lowest_free
lowest_none [] e = refl
lowest_none (s ∷ ss) e = go (in_use s) e (lowest_none ss)
  where
    go : (u : Bool) → u && all in_use ss ≡ true → (all in_use ss ≡ true → lowest_free ss ≡ length ss)
        → (when u then suc (lowest_free ss) else 0) ≡ length (s ∷ ss)
    go true e h = ap suc (h e)
    go false e h = absurd (ff_tt e)

-- ---- the lowest free slot of those from k up to another
module _ (zs : List ℤ) (k to : ℕ) (h : length zs ≡ 320) (e : to ≤ 64) where
  abbrev slots : List Slot
  slots = slots_of zs

  slice_more : k < to → slice k to slots ≡ get_or slots k free_slot ∷ slice (suc k) to slots
  slice_more l = slice-cons k to slots free_slot l (omega (arith, slots_count zs))

  pub free_here : k < to → in_use (get_or slots k free_slot) ≡ false → lowest_free (slice k to slots) ≡ 0
  unfolding lowest_free
  free_here l u = rw (slice_more l, u)

  pub free_later : k < to → in_use (get_or slots k free_slot) ≡ true → lowest_free (slice k to slots) ≡ suc (lowest_free (slice (k + 1) to slots))
  unfolding lowest_free
  free_later l u =
      let next : suc k ≡ k + 1 = omega arith in
      let here : lowest_free (slice k to slots) ≡ suc (lowest_free (slice (suc k) to slots)) = rw (slice_more l, u) in
      here ∙ ap (λ (n : ℕ). suc (lowest_free (slice n to slots))) next

  pub free_none : to ≤ k → lowest_free (slice k to slots) ≡ 0
  unfolding lowest_free
  free_none l = ap lowest_free (drop_of_length-le (take to slots) {i = k} (omega (arith, length-take to slots)))
