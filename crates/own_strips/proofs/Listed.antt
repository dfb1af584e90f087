-- The listing from a slot on: a slot in use gives its row and then what is listed behind it, a free one only that; and it has five numbers a strip.
use mathlib.Core.Path.{◌≡◌, refl, sym, ap, ◌∙◌}
use mathlib.Core.Bool.{Bool, true, false}
use mathlib.Core.List.{List, [], ◌∷◌, ◌++◌}
use Prim.Native.Nat.{ℕ, suc, ◌+◌, ◌*◌, ◌≤◌, ◌<◌}
use native.Mathlib.Omega.{arith}
use lib.IntN.{ℤ, pos}
use lib.ListN.{length, take, drop, length-take, length-drop, drop_of_length-le}
use lib.Seq.{slice, slice-cons, length-slice, drop-drop}
use Rattle.whole.specs.Choice.{when◌then◌else◌}
use Rattle.grid.specs.Table.{sides}
use Rattle.grid.specs.declared.Window.{Window}
use Rattle.slots.specs.Slots.{Slot, slots_of, strips_in, in_use, slot_at, slot_of, slot_numbers, free_slot}
use Rattle.slots.specs.Workers.{strip_in}
use Rattle.slots.proofs.Good.{strips_few}
use Rattle.slots.proofs.Places.{slots_count, slot_at_lem}
use Rattle.own_strips.specs.OwnStrips.{listed_from}
use Rattle.own_strips.specs.Rows.{listed_on}

-- five numbers for each strip
pub listed_length : (k : ℕ) (ss : List Slot) → length (listed_from k ss) ≡ 5 * length (strips_in ss)
unfolding listed_from strips_in
listed_length k [] = refl
listed_length k (s ∷ ss) = go (in_use s) (listed_length (suc k) ss)
  where
    go : (u : Bool) → length (listed_from (suc k) ss) ≡ 5 * length (strips_in ss)
        → length (when u then pos k ∷ sides s.strip ++ listed_from (suc k) ss else listed_from (suc k) ss)
        ≡ 5 * length (when u then s.strip ∷ strips_in ss else strips_in ss)
    go true e = omega arith
    go false e = e

-- and so at most 160 for 32 slots
pub listed_most : (from : ℕ) (zs : List ℤ) → length (listed_from 0 (slice from (from + 32) (slots_of zs))) ≤ 160
listed_most from zs =
    let ours = slice from (from + 32) (slots_of zs) in
    omega (arith, listed_length 0 ours, strips_few ours, length-drop from (take (from + 32) (slots_of zs)), length-take (from + 32) (slots_of zs))

-- ---- of the 32 slots of a table that begin with the slot `from`, what is listed from the slot k of them on
module _ (from : ℕ) (zs : List ℤ) (k : ℕ) (low : from ≤ 32) (long : length zs ≡ 320) where
  abbrev ours : List Slot
  ours = slice from (from + 32) (slots_of zs)

  module _ (h : k < 32) where
    abbrev here : Slot
    here = slot_at zs (from + k)

    more : drop k ours ≡ here ∷ drop (k + 1) ours
    more =
        let next : suc (from + k) ≡ from + (k + 1) = omega arith in
        let front = take (from + 32) (slots_of zs) in
        drop-drop k from front
        ∙ slice-cons (from + k) (from + 32) (slots_of zs) free_slot (omega arith) (omega (arith, slots_count zs))
        ∙ ap (λ (f : ℕ). here ∷ drop f front) next
        ∙ ap (λ (ss : List Slot). here ∷ ss) (sym (drop-drop (k + 1) from front))

    pub listed_used : {w : Window} → in_use here ≡ true → w ≡ strip_in zs (5 * (from + k))
        → listed_on from zs k ≡ slot_numbers (slot_of k w) ++ listed_on from zs (k + 1)
    unfolding listed_from
    listed_used {w} u e =
        let next : suc k ≡ k + 1 = omega arith in
        let strip : here.strip ≡ w = ap (λ (s : Slot). s.strip) (slot_at_lem (from + k) zs free_slot (omega arith)) ∙ sym e in
        rw (more, u, strip, next)

    pub listed_free : in_use here ≡ false → listed_on from zs k ≡ listed_on from zs (k + 1)
    unfolding listed_from
    listed_free u = let next : suc k ≡ k + 1 = omega arith in rw (more, u, next)

  pub listed_none : 32 ≤ k → listed_on from zs k ≡ []
  unfolding listed_from
  listed_none h =
      let size = length-slice from (from + 32) (slots_of zs) (omega (arith, slots_count zs)) in
      ap (listed_from k) (drop_of_length-le ours {i = k} (omega (arith, size)))
