-- Whether slots are good each by itself, one after the other: where those behind a slot are, it is its own mark and its own numbers that decide;
-- where they are not, nothing before them helps.
use mathlib.Core.Path.{◌≡◌, refl, sym, ap, ◌∙◌}
use mathlib.Core.Bool.{Bool, true, false, ◌&&◌, ◌||◌}
use mathlib.Core.List.{List, [], ◌∷◌}
use Prim.Native.Nat.{ℕ, zero, suc, ◌+◌, ◌-◌, ◌*◌, ◌/◌, ◌≤◌}
use native.Mathlib.Omega.{arith}
use borrow.Author.Tests.{eq-eqb, ne_eqb}
use lib.IntN.{ℤ, pos, negsuc}
use lib.ListN.{length, drop, length-drop}
use lib.Seq.{drop-drop}
use Rattle.whole.specs.Choice.{when◌then◌else◌}
use Rattle.whole.proofs.Comparisons.{ff_tt}
use Rattle.grid.specs.Refusals.{window_refusal}
use Rattle.racks.specs.Members.{all}
use Rattle.slots.specs.Slots.{Slot, slots_of, number_is, in_use, strips_in, good_mark, good_strip}
use Rattle.slots.specs.Workers.{slots_from, each_good}
use Rattle.slots.proofs.Places.{slots_count, slots_drop}

-- ---- a mark
pub is_not : (z : ℤ) (n : ℕ) → (z ≡ pos n → ⊥) → number_is n z ≡ false
is_not (pos m) n h = ne_eqb m n (λ (e : m ≡ n). h (ap pos e))
is_not (negsuc m) n h = refl

-- ---- tests in a row
none_last : (a : Bool) → a && false ≡ false
none_last true = refl
none_last false = refl

both : (a g b : Bool) → a && (g && b) ≡ true → a && b ≡ true
both false g b e = absurd (ff_tt e)
both true false b e = absurd (ff_tt e)
both true true b e = e

-- ---- a slot and those behind it
module _ (s : Slot) (ss : List Slot) where
  abbrev marks : Bool
  marks = all good_mark ss

  abbrev strips : Bool
  strips = all good_strip (strips_in ss)

  -- it is free
  pub free_strips : s.mark ≡ pos 0 → strips_in (s ∷ ss) ≡ strips_in ss
  unfolding strips_in
  free_strips m = rw m

  pub free_good : s.mark ≡ pos 0 → each_good (s ∷ ss) ≡ each_good ss
  unfolding strips_in all
  free_good m = rw m

  -- its mark is neither 0 nor 1
  pub bad_mark : (s.mark ≡ pos 0 → ⊥) → (s.mark ≡ pos 1 → ⊥) → each_good (s ∷ ss) ≡ false
  unfolding all
  bad_mark p q = rw (is_not s.mark 0 p, is_not s.mark 1 q)

  -- it is in use
  module _ (m : s.mark ≡ pos 1) where
    pub used_strips : strips_in (s ∷ ss) ≡ s.strip ∷ strips_in ss
    unfolding strips_in
    used_strips = rw m

    used_good : each_good (s ∷ ss) ≡ marks && (good_strip s.strip && strips)
    unfolding strips_in all
    used_good = rw m

    pub good_use : (window_refusal s.strip).number ≡ 0 → each_good ss ≡ true → each_good (s ∷ ss) ≡ true
    good_use h g = used_good ∙ ap (λ (g : Bool). marks && (g && strips)) (eq-eqb (window_refusal s.strip).number 0 h) ∙ g

  -- it is not free, whatever its mark is, and its strip is bad
  pub bad_strip : (s.mark ≡ pos 0 → ⊥) → ((window_refusal s.strip).number ≡ 0 → ⊥) → each_good (s ∷ ss) ≡ false
  unfolding strips_in all
  bad_strip p h =
      ap (λ (b : Bool). ((b || in_use s) && marks) && all good_strip (strips_in (s ∷ ss))) (is_not s.mark 0 p) ∙ go (in_use s)
    where
      go : (u : Bool) → (u && marks) && all good_strip (when u then s.strip ∷ strips_in ss else strips_in ss) ≡ false
      go false = refl
      go true = ap (λ (g : Bool). marks && (g && strips)) (ne_eqb (window_refusal s.strip).number 0 h) ∙ none_last marks

  -- nothing before bad slots makes them good
  good_behind : each_good (s ∷ ss) ≡ true → each_good ss ≡ true
  unfolding strips_in all
  good_behind = go (good_mark s) (in_use s)
    where
      go : (g u : Bool) → (g && all good_mark ss) && all good_strip (when u then s.strip ∷ strips_in ss else strips_in ss) ≡ true → each_good ss ≡ true
      go false u e = absurd (ff_tt e)
      go true false e = e
      go true true e = both marks (good_strip s.strip) strips e

-- ---- a table and its slots from a place on
good_drop : (k : ℕ) (ss : List Slot) → each_good ss ≡ true → each_good (drop k ss) ≡ true
good_drop zero ss g = g
good_drop (suc k) [] g = g
good_drop (suc k) (s ∷ ss) g = good_drop k ss (good_behind s ss g)

pub bad_later : (zs : List ℤ) (k : ℕ) → each_good (slots_from (5 * k) zs) ≡ false → each_good (slots_of zs) ≡ false
bad_later zs k f = go (each_good (slots_of zs)) refl
  where
    go : (b : Bool) → each_good (slots_of zs) ≡ b → each_good (slots_of zs) ≡ false
    go false e = e
    go true e = absurd (ff_tt (sym f ∙ ap each_good (slots_drop k zs) ∙ good_drop k (slots_of zs) e))

-- the same of the slots from a place on, and from k slots behind it
pub bad_behind : (zs : List ℤ) (p k : ℕ) → each_good (slots_from (p + 5 * k) zs) ≡ false → each_good (slots_from p zs) ≡ false
bad_behind zs p k f = bad_later (drop p zs) k (ap (λ (ys : List ℤ). each_good (slots_of ys)) (drop-drop (5 * k) p zs) ∙ f)

-- no more strips than slots
pub strips_few : (ss : List Slot) → length (strips_in ss) ≤ length ss
unfolding strips_in
strips_few [] = omega arith
strips_few (s ∷ ss) = go (in_use s) (strips_few ss)
  where
    go : (u : Bool) → length (strips_in ss) ≤ length ss → length (when u then s.strip ∷ strips_in ss else strips_in ss) ≤ length (s ∷ ss)
    go true h = omega arith
    go false h = omega arith

-- as many strips as slots where all are in use
pub strips_full : (ss : List Slot) → all in_use ss ≡ true → length (strips_in ss) ≡ length ss
unfolding strips_in all
strips_full [] e = refl
strips_full (s ∷ ss) e = go (in_use s) e (strips_full ss)
  where
    go : (u : Bool) → u && all in_use ss ≡ true → (all in_use ss ≡ true → length (strips_in ss) ≡ length ss)
        → length (when u then s.strip ∷ strips_in ss else strips_in ss) ≡ length (s ∷ ss)
    go true e h = ap suc (h e)
    go false e h = absurd (ff_tt e)

pub full_strips : (ss : List Slot) → length (strips_in ss) ≡ length ss → all in_use ss ≡ true
unfolding strips_in all
full_strips [] e = refl
full_strips (s ∷ ss) e = go (in_use s) e (full_strips ss)
  where
    go : (u : Bool) → length (when u then s.strip ∷ strips_in ss else strips_in ss) ≡ length (s ∷ ss)
        → (length (strips_in ss) ≡ length ss → all in_use ss ≡ true) → (u && all in_use ss) ≡ true
    go true e h = h (omega arith)
    go false e h = absurd (omega (arith, e, strips_few ss))

pub strips_behind : (zs : List ℤ) (p : ℕ) → length zs ≡ 320 → length (strips_in (slots_from p zs)) ≤ (320 - p) / 5
strips_behind zs p h = omega (arith, strips_few (slots_from p zs), slots_count (drop p zs), length-drop p zs)
