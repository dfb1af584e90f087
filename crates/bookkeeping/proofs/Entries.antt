-- The slots in use, as entries: each thing that is done to the list on paper is what is done to the slots. All by induction on the slots.
use mathlib.Core.Path.{◌≡◌, refl, sym, ap, ◌∙◌}
use mathlib.Core.Bool.{Bool, true, false, ◌&&◌, ◌||◌}
use mathlib.Core.List.{List, [], ◌∷◌, ◌++◌}
use Prim.Native.Nat.{ℕ, zero, suc, ◌+◌, ◌≤◌, ◌<◌}
use native.Mathlib.Nat.{add-zero}
use native.Mathlib.Omega.{arith}
use borrow.Author.Tests.{eq-eqb, ne_eqb, lt-ltb, le-ltb}
use lib.Dec.{eqb, eqb-suc-suc}
use lib.IntN.{ℤ, pos, negsuc}
use lib.ListN.{length, get_or, set}
use Rattle.whole.specs.Choice.{when◌then◌else◌}
use Rattle.whole.proofs.Comparisons.{tt_ff}
use Rattle.grid.specs.Table.{sides}
use Rattle.grid.specs.declared.Window.{Window}
use Rattle.racks.specs.Members.{any, all}
use Rattle.slots.specs.Slots.{Slot, number_is, in_use, strips_in, lowest_free, slot_of, free_slot}
use Rattle.own_strips.specs.OwnStrips.{listed_from}
use Rattle.bookkeeping.specs.PlainList.{Entry, entry, strips, RisingFrom, no_entry, an_entry}
use Rattle.bookkeeping.specs.PlainList.{first_missing, entered, has, struck_out, entries_listed}
use Rattle.bookkeeping.specs.Runs.{entries_from}

-- the entries of a slot and of those after it, by whether it is in use
abbrev entries_if : Bool → ℕ → Slot → List Slot → List Entry
entries_if b k s ss = when b then entry k s.strip ∷ entries_from (suc k) ss else entries_from (suc k) ss

-- the next number, and as many numbers on
next_number : (k j : ℕ) → k + suc j ≡ suc k + j
next_number k j = omega arith

-- ---- the strips, and how many there are
pub entries_strips : (k : ℕ) (ss : List Slot) → strips (entries_from k ss) ≡ strips_in ss
unfolding entries_from strips_in
entries_strips k [] = refl
entries_strips k (s ∷ ss) = go (in_use s) (entries_strips (suc k) ss)
  where
    go : (b : Bool) → strips (entries_from (suc k) ss) ≡ strips_in ss
        → strips (entries_if b k s ss) ≡ (when b then s.strip ∷ strips_in ss else strips_in ss)
    go true e = ap (λ (ws : List Window). s.strip ∷ ws) e
    go false e = e

entries_few : (k : ℕ) (ss : List Slot) → length (entries_from k ss) ≤ length ss
unfolding entries_from
entries_few k [] = omega arith
entries_few k (s ∷ ss) = go (in_use s) (entries_few (suc k) ss)
  where
    go : (b : Bool) → length (entries_from (suc k) ss) ≤ length ss → length (entries_if b k s ss) ≤ suc (length ss)
    go true h = omega arith
    go false h = omega arith

pub entries_full : (k : ℕ) (ss : List Slot) → eqb (length (entries_from k ss)) (length ss) ≡ all in_use ss
unfolding entries_from all
entries_full k [] = refl
entries_full k (s ∷ ss) = go (in_use s) (entries_full (suc k) ss)
  where
    go : (b : Bool) → eqb (length (entries_from (suc k) ss)) (length ss) ≡ all in_use ss
        → eqb (length (entries_if b k s ss)) (suc (length ss)) ≡ (b && all in_use ss)
    go true e = eqb-suc-suc (length (entries_from (suc k) ss)) (length ss) ∙ e
    go false e = ne_eqb (length (entries_from (suc k) ss)) (suc (length ss)) (omega (arith, entries_few (suc k) ss))

-- ---- they are in order
rising_sooner : {n k : ℕ} {es : List Entry} → n ≤ k → RisingFrom k es → RisingFrom n es
rising_sooner h no_entry = no_entry
rising_sooner {n} h (an_entry {e = e} l r) = let m : n ≤ e.number = omega arith in an_entry m r

pub entries_rise : (k : ℕ) (ss : List Slot) → RisingFrom k (entries_from k ss)
unfolding entries_from
entries_rise k [] = no_entry
entries_rise k (s ∷ ss) = go (in_use s) (entries_rise (suc k) ss)
  where
    go : (b : Bool) → RisingFrom (suc k) (entries_from (suc k) ss) → RisingFrom k (entries_if b k s ss)
    go true r = let m : k ≤ k = omega arith in an_entry m r
    go false r = rising_sooner (omega arith) r

-- ---- a number below all of them
has_none : (n : ℕ) {k : ℕ} {es : List Entry} → n < k → RisingFrom k es → has (pos n) es ≡ false
unfolding any
has_none n h no_entry = refl
has_none n h (an_entry {e = e} l r) = simp (ne_eqb n e.number (omega arith), has_none n (omega arith) r)

missing_below : (n : ℕ) {k : ℕ} {es : List Entry} → n < k → RisingFrom k es → first_missing n es ≡ n
unfolding first_missing
missing_below n h no_entry = refl
missing_below n h (an_entry {e = e} l r) = simp (ne_eqb e.number n (omega arith))

entered_below : (n : ℕ) {k : ℕ} (w : Window) {es : List Entry} → n < k → RisingFrom k es → entered n w es ≡ entry n w ∷ es
unfolding entered
entered_below n w h no_entry = refl
entered_below n w h (an_entry {e = e} l r) = simp (le-ltb e.number n (omega arith))

-- ---- the first missing number is that of the lowest free slot
pub first_missing_lem : (k : ℕ) (ss : List Slot) → first_missing k (entries_from k ss) ≡ k + lowest_free ss
unfolding entries_from first_missing lowest_free
first_missing_lem k [] = omega arith
first_missing_lem k (s ∷ ss) = go (in_use s) (first_missing_lem (suc k) ss)
  where
    go : (b : Bool) → first_missing (suc k) (entries_from (suc k) ss) ≡ suc k + lowest_free ss
        → first_missing k (entries_if b k s ss) ≡ k + (when b then suc (lowest_free ss) else 0)
    go true e = simp (eq-eqb k k refl) (e ∙ sym (next_number k (lowest_free ss)))
    go false e = missing_below k (omega arith) (entries_rise (suc k) ss) ∙ sym (add-zero k)

-- ---- a strip entered at a free slot
pub enters : (k j : ℕ) (w : Window) (ss : List Slot) → j < length ss → in_use (get_or ss j free_slot) ≡ false
    → entered (k + j) w (entries_from k ss) ≡ entries_from k (set ss j (slot_of 1 w))
unfolding entries_from entered
enters k j w [] h f = absurd (omega arith)
enters k zero w (s ∷ ss) h f = rw (add-zero, f) (entered_below k w (omega arith) (entries_rise (suc k) ss))
enters k (suc j) w (s ∷ ss) h f = go (in_use s) (enters (suc k) j w ss (omega arith) f)
  where
    go : (b : Bool) → entered (suc k + j) w (entries_from (suc k) ss) ≡ entries_from (suc k) (set ss j (slot_of 1 w))
        → entered (k + suc j) w (entries_if b k s ss) ≡ entries_if b k s (set ss j (slot_of 1 w))
    go true e =
        simp (lt-ltb k (k + suc j) (omega arith))
        (ap (λ (es : List Entry). entry k s.strip ∷ es) (ap (λ (n : ℕ). entered n w (entries_from (suc k) ss)) (next_number k j) ∙ e))
    go false e = rw (next_number k j, e)

-- ---- an entry that is there, or not
pub has_slot : (k j : ℕ) (ss : List Slot) → has (pos (k + j)) (entries_from k ss) ≡ in_use (get_or ss j free_slot)
unfolding entries_from any
has_slot k j [] = refl
has_slot k zero (s ∷ ss) = go (in_use s)
  where
    go : (b : Bool) → has (pos (k + 0)) (entries_if b k s ss) ≡ b
    go true = simp (eq-eqb (k + 0) k (omega arith))
    go false = rw add-zero (has_none k (omega arith) (entries_rise (suc k) ss))
has_slot k (suc j) (s ∷ ss) = go (in_use s) (has_slot (suc k) j ss)
  where
    go : (b : Bool) → has (pos (suc k + j)) (entries_from (suc k) ss) ≡ in_use (get_or ss j free_slot)
        → has (pos (k + suc j)) (entries_if b k s ss) ≡ in_use (get_or ss j free_slot)
    go true e = simp (ne_eqb (k + suc j) k (omega arith)) (ap (λ (n : ℕ). has (pos n) (entries_from (suc k) ss)) (next_number k j) ∙ e)
    go false e = rw next_number e

pub has_negative : (n : ℕ) (es : List Entry) → has (negsuc n) es ≡ false
unfolding any
has_negative n [] = refl
has_negative n (e ∷ es) = has_negative n es

-- ---- an entry taken out
pub struck_absent : (z : ℤ) (es : List Entry) → has z es ≡ false → struck_out z es ≡ es
unfolding any struck_out
struck_absent z [] h = refl
struck_absent z (e ∷ es) h = go (number_is e.number z) h (struck_absent z es)
  where
    go : (b : Bool) → (b || has z es) ≡ false → (has z es ≡ false → struck_out z es ≡ es) → (when b then es else e ∷ struck_out z es) ≡ e ∷ es
    go true h f = absurd (tt_ff h)
    go false h f = ap (λ (rest : List Entry). e ∷ rest) (f h)

pub leaves : (k j : ℕ) (ss : List Slot) → struck_out (pos (k + j)) (entries_from k ss) ≡ entries_from k (set ss j free_slot)
unfolding entries_from struck_out
leaves k j [] = refl
leaves k zero (s ∷ ss) = go (in_use s)
  where
    go : (b : Bool) → struck_out (pos (k + 0)) (entries_if b k s ss) ≡ entries_from (suc k) ss
    go true = simp (eq-eqb (k + 0) k (omega arith))
    go false = rw add-zero (struck_absent (pos k) (entries_from (suc k) ss) (has_none k (omega arith) (entries_rise (suc k) ss)))
leaves k (suc j) (s ∷ ss) = go (in_use s) (leaves (suc k) j ss)
  where
    go : (b : Bool) → struck_out (pos (suc k + j)) (entries_from (suc k) ss) ≡ entries_from (suc k) (set ss j free_slot)
        → struck_out (pos (k + suc j)) (entries_if b k s ss) ≡ entries_if b k s (set ss j free_slot)
    go true e =
        simp (ne_eqb (k + suc j) k (omega arith))
        (ap (λ (es : List Entry). entry k s.strip ∷ es) (ap (λ (n : ℕ). struck_out (pos n) (entries_from (suc k) ss)) (next_number k j) ∙ e))
    go false e = rw (next_number k j, e)

-- ---- the entries listed
abbrev listed_if : Bool → ℕ → Slot → List Slot → List ℤ
listed_if b k s ss = when b then pos k ∷ sides s.strip ++ listed_from (suc k) ss else listed_from (suc k) ss

pub lists : (k : ℕ) (ss : List Slot) → entries_listed (entries_from k ss) ≡ listed_from k ss
unfolding entries_from entries_listed listed_from
lists k [] = refl
lists k (s ∷ ss) = go (in_use s) (lists (suc k) ss)
  where
    go : (b : Bool) → entries_listed (entries_from (suc k) ss) ≡ listed_from (suc k) ss → entries_listed (entries_if b k s ss) ≡ listed_if b k s ss
    go true e = ap (λ (zs : List ℤ). pos k ∷ sides s.strip ++ zs) e
    go false e = e
