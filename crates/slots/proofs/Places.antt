-- The slots of a table are read five numbers at a time: so they are counted, found by their places, and changed by five numbers that are put there.
use mathlib.Core.Path.{◌≡◌, refl, sym, ap, ◌∙◌}
use mathlib.Core.Bool.{true}
use mathlib.Core.List.{List, [], ◌∷◌}
use Prim.Native.Nat.{ℕ, zero, suc, ◌+◌, ◌*◌, ◌/◌, ◌≤◌, ◌<◌}
use native.Mathlib.Nat.{add-zero}
use native.Mathlib.Numerals.{towards_suc}
use native.Mathlib.Omega.{arith}
use lib.IntN.{ℤ, pos}
use lib.ListN.{length, drop, get_or, set}
use lib.Seq.{sets, drop-cons, get_or-drop}
use Rattle.whole.proofs.Comparisons.{ff_tt}
use Rattle.slots.specs.Slots.{Slot, slots_of, in_use, free_slot, slot_numbers}
use Rattle.slots.specs.Workers.{slot_in, slots_from}

-- how many there are: one for every five numbers
pub slots_count : (zs : List ℤ) → length (slots_of zs) ≡ length zs / 5
unfolding slots_of
slots_count (m ∷ l ∷ b ∷ r ∷ t ∷ zs) = omega (arith, slots_count zs)
slots_count (m ∷ l ∷ b ∷ r ∷ []) = refl
slots_count (m ∷ l ∷ b ∷ []) = refl
slots_count (m ∷ l ∷ []) = refl
slots_count (m ∷ []) = refl
slots_count [] = refl

-- five numbers left out are one slot left out
past : (k : ℕ) → 5 * suc k ≡ suc (suc (suc (suc (suc (5 * k)))))
past k = omega arith

pub slots_drop : (k : ℕ) (zs : List ℤ) → slots_from (5 * k) zs ≡ drop k (slots_of zs)
unfolding slots_of
slots_drop zero zs = refl
slots_drop (suc k) [] = ap (λ (n : ℕ). slots_of (drop n [])) (past k)
slots_drop (suc k) (a ∷ []) = ap (λ (n : ℕ). slots_of (drop n (a ∷ []))) (past k)
slots_drop (suc k) (a ∷ b ∷ []) = ap (λ (n : ℕ). slots_of (drop n (a ∷ b ∷ []))) (past k)
slots_drop (suc k) (a ∷ b ∷ c ∷ []) = ap (λ (n : ℕ). slots_of (drop n (a ∷ b ∷ c ∷ []))) (past k)
slots_drop (suc k) (a ∷ b ∷ c ∷ d ∷ []) = ap (λ (n : ℕ). slots_of (drop n (a ∷ b ∷ c ∷ d ∷ []))) (past k)
slots_drop (suc k) (a ∷ b ∷ c ∷ d ∷ e ∷ zs) = ap (λ (n : ℕ). slots_of (drop n (a ∷ b ∷ c ∷ d ∷ e ∷ zs))) (past k) ∙ slots_drop k zs

-- the slots from a place on are the slot there and those behind it
pub slots_more : (zs : List ℤ) (p : ℕ) → p + 5 ≤ length zs → slots_from p zs ≡ slot_in zs p ∷ slots_from (p + 5) zs
unfolding slots_of
slots_more zs p h =
    let h₀ : p < length zs = omega arith in
    let h₁ : suc p < length zs = omega arith in
    let h₂ : suc (suc p) < length zs = omega arith in
    let h₃ : suc (suc (suc p)) < length zs = omega arith in
    let h₄ : suc (suc (suc (suc p))) < length zs = omega arith in
    simp towards_suc (rw (
      drop-cons zs p (pos 0) h₀,
      drop-cons zs (suc p) (pos 0) h₁,
      drop-cons zs (suc (suc p)) (pos 0) h₂,
      drop-cons zs (suc (suc (suc p))) (pos 0) h₃,
      drop-cons zs (suc (suc (suc (suc p)))) (pos 0) h₄,
    ))

-- the slot k stands at the place k
pub slot_at_lem : (k : ℕ) (zs : List ℤ) (s : Slot) → 5 * k + 5 ≤ length zs → get_or (slots_of zs) k s ≡ slot_in zs (5 * k)
slot_at_lem k zs s h =
    ap (λ (n : ℕ). get_or (slots_of zs) n s) (sym (add-zero k))
    ∙ sym (get_or-drop k (slots_of zs) 0 s)
    ∙ ap (λ (ss : List Slot). get_or ss 0 s) (sym (slots_drop k zs) ∙ slots_more zs (5 * k) h)

-- five numbers that are put at the place of a slot are that slot
module _ (s : Slot) where
  pub slots_put : (zs : List ℤ) (k : ℕ) → slots_of (sets zs (5 * k) (slot_numbers s)) ≡ set (slots_of zs) k s
  unfolding slots_of
  slots_put (m ∷ l ∷ b ∷ r ∷ t ∷ zs) zero = refl
  slots_put (m ∷ l ∷ b ∷ r ∷ t ∷ zs) (suc k) = rw (past, slots_put zs k)
  slots_put (m ∷ l ∷ b ∷ r ∷ []) zero = refl
  slots_put (m ∷ l ∷ b ∷ r ∷ []) (suc k) = rw past
  slots_put (m ∷ l ∷ b ∷ []) zero = refl
  slots_put (m ∷ l ∷ b ∷ []) (suc k) = rw past
  slots_put (m ∷ l ∷ []) zero = refl
  slots_put (m ∷ l ∷ []) (suc k) = rw past
  slots_put (m ∷ []) zero = refl
  slots_put (m ∷ []) (suc k) = rw past
  slots_put [] k = refl

-- a slot in use is one of them
pub used_among : (ss : List Slot) (k : ℕ) → in_use (get_or ss k free_slot) ≡ true → k < length ss
used_among [] k e = absurd (ff_tt e)
used_among (s ∷ ss) zero e = omega arith
used_among (s ∷ ss) (suc k) e = omega (arith, used_among ss k e)
