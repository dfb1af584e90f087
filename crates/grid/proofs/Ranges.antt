-- The first number off the table, as a walk along a list finds it, and what is known of the numbers before it.
use mathlib.Core.Path.{◌≡◌, refl, sym}
use mathlib.Core.Bool.{Bool, true, false, ◌&&◌}
use mathlib.Core.List.{List, [], ◌∷◌}
use Prim.Native.Nat.{ℕ, zero, suc, ◌+◌, ◌<◌, ◌≤◌, ◌^◌}
use native.Mathlib.Numerals.{add-one}
use native.Mathlib.Omega.{arith}
use lib.Ieee.Bits.{is_true}
use lib.IntN.{ℤ, pos, neg_ℤ}
use lib.ListN.{length, get_or, drop, drop_of_length-le}
use lib.Seq.{drop-cons}
use lib.Signed.{◌<ℤ◌, le_z, le_z_yes, mag}
use mir.Syntax.{w32}
use mir.Val.{to_z, of_z}
use Rattle.whole.specs.Within.{Within}
use Rattle.whole.proofs.Comparisons.{true-T, ff_tt, back, plain, bits}
use Rattle.whole.specs.Choice.{when◌then◌else◌}
use Rattle.grid.specs.Table.{farthest, on_table, first_off}

-- ---- of a list by its head
pub off_here : (z : ℤ) (zs : List ℤ) → on_table z ≡ false → 0 ≡ first_off (z ∷ zs)
unfolding first_off
off_here z zs e = simp e

pub off_later : {k : ℕ} (z : ℤ) (zs : List ℤ) → on_table z ≡ true → k ≡ first_off zs → suc k ≡ first_off (z ∷ zs)
unfolding first_off
off_later z zs e h = simp (e, h)

pub off_none : 0 ≡ first_off []
unfolding first_off
off_none = refl

-- of a number as it is read, and of four
pub read_one : (z : ℤ) → mag z < 2 ^ 31 → on_table (to_z w32 (of_z w32 z)) ≡ on_table z
read_one z h = λ i. on_table (back w32 z h i)

pub read_four : (a b c d : ℤ) → mag a < 2 ^ 31 → mag b < 2 ^ 31 → mag c < 2 ^ 31 → mag d < 2 ^ 31
    → first_off (to_z w32 (of_z w32 a) ∷ to_z w32 (of_z w32 b) ∷ to_z w32 (of_z w32 c) ∷ to_z w32 (of_z w32 d) ∷ []) ≡ first_off (a ∷ b ∷ c ∷ d ∷ [])
read_four a b c d ha hb hc hd = λ i. first_off (back w32 a ha i ∷ back w32 b hb i ∷ back w32 c hc i ∷ back w32 d hd i ∷ [])

-- ---- of a loop that has passed i numbers of s on the table: one more, the first off the table, and the end
module _ (s : List ℤ) (i : ℕ) where
  pub first_more : i < length s → on_table (get_or s i (pos 0)) ≡ true → first_off s ≡ i + first_off (drop i s) → first_off s ≡ i + 1 + first_off (drop (i + 1) s)
  first_more h t e =
      let l : first_off (drop i s) ≡ suc (first_off (drop (suc i) s)) = rw (drop-cons s i (pos 0)) (sym (off_later _ _ t refl)) in
      rw add-one (omega arith)

  pub first_here : i < length s → on_table (get_or s i (pos 0)) ≡ false → first_off s ≡ i + first_off (drop i s) → i ≡ first_off s
  first_here h t e =
      let l : first_off (drop i s) ≡ 0 = rw (drop-cons s i (pos 0)) (sym (off_here _ _ t)) in
      omega arith

  pub first_none : length s ≤ i → first_off s ≡ i + first_off (drop i s) → i ≡ first_off s
  first_none h e =
      let l : first_off (drop i s) ≡ 0 = rw drop_of_length-le (sym off_none) in
      omega arith

-- ---- what is on the table is within its range
pub on_within : (z : ℤ) → on_table z ≡ true → Within farthest z
unfolding on_table
on_within z e = go (le_z (neg_ℤ (pos farthest)) z) (le_z z (pos farthest)) refl refl e
  where
    go : (a b : Bool) → le_z (neg_ℤ (pos farthest)) z ≡ a → le_z z (pos farthest) ≡ b → (a && b) ≡ true → Within farthest z
    go true true p q e = record { low = le_z_yes (true-T p); high = le_z_yes (true-T q) }
    go true false p q e = absurd (ff_tt e)
    go false b p q e = absurd (ff_tt e)

pub within_on : (z : ℤ) → Within farthest z → on_table z ≡ true
unfolding on_table
within_on z h = simp (is_true (le_z (neg_ℤ (pos farthest)) z) h.low.le, is_true (le_z z (pos farthest)) h.high.le)

-- the numbers before the first that is off
pub before_off : (s : List ℤ) (k : ℕ) → k < first_off s → k < length s → Within farthest (get_or s k (pos 0))
unfolding first_off
before_off [] k h l = absurd (omega arith)
before_off (z ∷ s) k h l = go (on_table z) refl k h l (λ j. before_off s j)
  where
    go : (b : Bool) → on_table z ≡ b → (k : ℕ) → k < (when b then suc (first_off s) else 0) → k < suc (length s)
        → ((j : ℕ) → j < first_off s → j < length s → Within farthest (get_or s j (pos 0))) → Within farthest (get_or (z ∷ s) k (pos 0))
    go true e zero h l f = on_within z e
    go true e (suc k) h l f = f k (omega arith) (omega arith)
    go false e k h l f = absurd (omega arith)

-- two numbers as they are read are in order where the two are, and the other way
pub order_read : {low high : ℤ} → mag low < 2 ^ 31 → mag high < 2 ^ 31 → to_z w32 (of_z w32 low) <ℤ to_z w32 (of_z w32 high) → low <ℤ high
order_read {low} {high} l h p =
    plain {w = w32} (λ z. z <ℤ high) (record { sfits = l }) (plain {w = w32} (λ z. to_z w32 (of_z w32 low) <ℤ z) (record { sfits = h }) p)

pub order_put : {low high : ℤ} → mag low < 2 ^ 31 → mag high < 2 ^ 31 → low <ℤ high → to_z w32 (of_z w32 low) <ℤ to_z w32 (of_z w32 high)
order_put {low} {high} l h p =
    bits {w = w32} (λ z. z <ℤ to_z w32 (of_z w32 high)) (record { sfits = l }) (bits {w = w32} (λ z. low <ℤ z) (record { sfits = h }) p)
