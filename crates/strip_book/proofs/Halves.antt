-- A renter's half is 32 slots long, its slot k is the table's slot that is k further than its first, and five numbers put there change no other half.
use mathlib.Core.Path.{◌≡◌, refl, sym, ap, ◌∙◌}
use mathlib.Core.Bool.{true}
use mathlib.Core.List.{List}
use Prim.Native.Nat.{ℕ, zero, suc, ◌+◌, ◌*◌, ◌≤◌, ◌<◌}
use native.Mathlib.Omega.{arith}
use borrow.Author.Tests.{ne_eqb}
use lib.IntN.{ℤ, pos, negsuc, nat_abs}
use lib.ListN.{length, take, drop, get_or, set}
use lib.Seq.{sets, slice, get_or-drop, get_or-take, length-slice, take-set-lt, take-set-le, drop-set-add, drop-set-lt}
use Rattle.whole.proofs.Comparisons.{ff_tt}
use Rattle.slots.specs.Slots.{Slot, slots_of, slot_at, slot_numbers, free_slot}
use Rattle.slots.proofs.Places.{slots_count, slots_put}
use Rattle.strip_book.specs.Renters.{is_renter, first_slot, half}

-- ---- the two renters
pub data Either : ℤ → Type 0 where
  renter_zero : Either (pos 0)
  renter_one : Either (pos 1)

pub either : (renter : ℤ) → is_renter renter ≡ true → Either renter
either (pos zero) e = renter_zero
either (pos (suc zero)) e = renter_one
either (pos (suc (suc n))) e =
    absurd (ff_tt (sym (simp (ne_eqb (suc (suc n)) 0 (omega arith), ne_eqb (suc (suc n)) 1 (omega arith))) ∙ e))
either (negsuc n) e = absurd (ff_tt e)

module _ (renter : ℤ) (known : is_renter renter ≡ true) where
  pub at_most_one : nat_abs renter ≤ 1
  at_most_one = go (either renter known)
    where
      go : {z : ℤ} → Either z → nat_abs z ≤ 1
      go renter_zero = omega arith
      go renter_one = omega arith

  -- ---- his half
  module _ (zs : List ℤ) (long : length zs ≡ 320) where
    pub half_long : length (half renter zs) ≡ 32
    half_long =
        let h : first_slot renter + 32 ≤ length (slots_of zs) = omega (arith, at_most_one, slots_count zs) in
        length-slice (first_slot renter) (first_slot renter + 32) (slots_of zs) h ∙ omega arith

pub half_at : (renter : ℤ) (k : ℕ) (zs : List ℤ) → k < 32 → get_or (half renter zs) k free_slot ≡ slot_at zs (first_slot renter + k)
half_at renter k zs h =
    let l : first_slot renter + k < first_slot renter + 32 = omega arith in
    get_or-drop (first_slot renter) (take (first_slot renter + 32) (slots_of zs)) k free_slot
    ∙ get_or-take (first_slot renter + 32) (slots_of zs) (first_slot renter + k) free_slot l

-- ---- five numbers are put in a renter's slot
module _ (s : Slot) (k : ℕ) (h : k < 32) (zs : List ℤ) where
  pub half_put : (renter : ℤ) → half renter (sets zs (5 * (first_slot renter + k)) (slot_numbers s)) ≡ set (half renter zs) k s
  half_put renter =
      let f = first_slot renter in
      let l : f + k < f + 32 = omega arith in
      ap (slice f (f + 32)) (slots_put s zs (f + k))
      ∙ ap (drop f) (take-set-lt (f + 32) (slots_of zs) (f + k) s l)
      ∙ drop-set-add f (take (f + 32) (slots_of zs)) k s

  -- the other's half is as it was
  pub half_kept : (renter other : ℤ) → is_renter renter ≡ true → is_renter other ≡ true → (other ≡ renter → ⊥)
      → half renter (sets zs (5 * (first_slot other + k)) (slot_numbers s)) ≡ half renter zs
  half_kept renter other known there n = ap (slice f (f + 32)) (slots_put s zs (first_slot other + k)) ∙ go (either renter known) (either other there) n
    where
      f : ℕ
      f = first_slot renter

      go : {r o : ℤ} → Either r → Either o → (o ≡ r → ⊥)
          → slice (first_slot r) (first_slot r + 32) (set (slots_of zs) (first_slot o + k) s) ≡ slice (first_slot r) (first_slot r + 32) (slots_of zs)
      go renter_zero renter_zero n = absurd (n refl)
      go renter_zero renter_one n = take-set-le 32 (slots_of zs) (32 + k) s (omega arith)
      go renter_one renter_zero n =
          ap (drop 32) (take-set-lt 64 (slots_of zs) (0 + k) s (omega arith)) ∙ drop-set-lt 32 (take 64 (slots_of zs)) (0 + k) s (omega arith)
      go renter_one renter_one n = absurd (n refl)
