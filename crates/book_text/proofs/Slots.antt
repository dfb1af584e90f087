-- The slots of a table that a strip is put in: one slot is changed, the others stay. And a table is told by its slots, since they can be written out.
use mathlib.Core.Path.{◌≡◌, refl, sym, ap, ◌∙◌}
use mathlib.Core.Bool.{true, false}
use mathlib.Core.List.{List, [], ◌∷◌}
use mathlib.Core.Logic.{◌⊎◌, inl, inr, ⊎_elim}
use Prim.Native.Nat.{ℕ, zero, suc, ◌%◌, ◌<◌}
use native.Mathlib.Omega.{arith}
use borrow.Author.Tests.{eqb-true}
use lib.IntN.{ℤ, pos, negsuc}
use lib.ListN.{length, get_or, set, replicate}
use lib.Seq.{get_or-set_same, get_or-set_other}
use Rattle.whole.proofs.Comparisons.{ff_tt}
use Rattle.grid.specs.declared.Window.{Window}
use Rattle.slots.specs.Slots.{Slot, slots_of, slot_at, slot_of, free_slot, number_is, in_use}
use Rattle.slots.proofs.Places.{slots_count, slots_put}
use Rattle.bookkeeping.specs.Runs.{empty_book}
use Rattle.book_text.specs.Texts.{with_strip}

-- ---- the empty book

all_alike : (n j : ℕ) (s : Slot) → get_or (replicate n s) j s ≡ s
all_alike zero j s = refl
all_alike (suc n) zero s = refl
all_alike (suc n) (suc j) s = all_alike n j s

empty_slots : slots_of empty_book ≡ replicate 64 free_slot
unfolding empty_book slots_of
empty_slots = refl

pub empty_at : (j : ℕ) → slot_at empty_book j ≡ free_slot
empty_at j = ap (λ (ss : List Slot). get_or ss j free_slot) empty_slots ∙ all_alike 64 j free_slot

-- ---- a slot in use

used_mark : (z : ℤ) → number_is 1 z ≡ true → z ≡ pos 1
used_mark (pos n) e = ap pos (eqb-true n 1 e)
used_mark (negsuc n) e = absurd (ff_tt e)

-- its mark is 1, so it is told by its strip
pub used_is : (s : Slot) → in_use s ≡ true → slot_of 1 s.strip ≡ s
used_is s u = ap (λ (z : ℤ). record { mark = z; strip = s.strip }) (sym (used_mark s.mark u))

-- ---- one slot is changed

either_way : (ss : List Slot) (k : ℕ) (s : Slot) (j : ℕ)
    → (get_or (set ss k s) j free_slot ≡ s) ⊎ (get_or (set ss k s) j free_slot ≡ get_or ss j free_slot)
either_way [] k s j = inr refl
either_way (x ∷ ss) zero s zero = inl refl
either_way (x ∷ ss) zero s (suc j) = inr refl
either_way (x ∷ ss) (suc k) s zero = inr refl
either_way (x ∷ ss) (suc k) s (suc j) = either_way ss k s j

-- each slot of a table that is not in use holds five zeros
abbrev pub FreeAreZero : List ℤ → Type 0
FreeAreZero zs = (j : ℕ) → in_use (slot_at zs j) ≡ false → slot_at zs j ≡ free_slot

-- that stays so where the slot that is changed is in use then, or holds five zeros
pub stay_zero : (ys zs : List ℤ) (k : ℕ) (s : Slot) → slots_of ys ≡ set (slots_of zs) k s → (in_use s ≡ false → s ≡ free_slot)
    → FreeAreZero zs → FreeAreZero ys
stay_zero ys zs k s e h f j u =
    let there = ap (λ (ss : List Slot). get_or ss j free_slot) e in
    ⊎_elim
    (λ c. let same = there ∙ c in same ∙ h (ap in_use (sym same) ∙ u))
    (λ c. let same = there ∙ c in same ∙ f j (ap in_use (sym same) ∙ u))
    (either_way (slots_of zs) k s j)

-- ---- a strip is put in the slot k

module _ (zs : List ℤ) (k : ℕ) (w : Window) where
  pub put_here : length zs ≡ 320 → k < 64 → slot_at (with_strip zs k w) k ≡ slot_of 1 w
  put_here long h =
      ap (λ (ss : List Slot). get_or ss k free_slot) (slots_put (slot_of 1 w) zs k)
      ∙ get_or-set_same (slots_of zs) k (slot_of 1 w) free_slot (omega (arith, slots_count zs))

  pub put_elsewhere : (j : ℕ) → (j ≡ k → ⊥) → slot_at (with_strip zs k w) j ≡ slot_at zs j
  put_elsewhere j n =
      ap (λ (ss : List Slot). get_or ss j free_slot) (slots_put (slot_of 1 w) zs k)
      ∙ get_or-set_other (slots_of zs) k j (slot_of 1 w) free_slot n

-- ---- a table is told by its slots

written_out : List Slot → List ℤ
written_out [] = []
written_out (s ∷ ss) = s.mark ∷ s.strip.left ∷ s.strip.bottom ∷ s.strip.right ∷ s.strip.top ∷ written_out ss

written_out_lem : (zs : List ℤ) → length zs % 5 ≡ 0 → written_out (slots_of zs) ≡ zs
unfolding slots_of written_out
written_out_lem (m ∷ l ∷ b ∷ r ∷ t ∷ zs) h = ap (λ (ys : List ℤ). m ∷ l ∷ b ∷ r ∷ t ∷ ys) (written_out_lem zs (omega arith))
written_out_lem (m ∷ l ∷ b ∷ r ∷ []) h = absurd (omega arith)
written_out_lem (m ∷ l ∷ b ∷ []) h = absurd (omega arith)
written_out_lem (m ∷ l ∷ []) h = absurd (omega arith)
written_out_lem (m ∷ []) h = absurd (omega arith)
written_out_lem [] h = refl

pub told_by_slots : (ys zs : List ℤ) → length ys ≡ 320 → length zs ≡ 320 → slots_of ys ≡ slots_of zs → ys ≡ zs
told_by_slots ys zs p q e = sym (written_out_lem ys (omega arith)) ∙ ap written_out e ∙ written_out_lem zs (omega arith)
