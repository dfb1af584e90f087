-- The two leaves of a book's paper: together they have its strips, since its slots are one renter's half and then the other's; and five numbers that
-- are put in a renter's slot change his leaf only.
use mathlib.Core.Path.{◌≡◌, refl, sym, ap, ◌∙◌}
use mathlib.Core.Bool.{Bool, true, false, ◌||◌}
use mathlib.Core.List.{List, [], ◌∷◌, ◌++◌, map-append}
use Prim.Native.Nat.{ℕ, ◌+◌, ◌*◌, ◌<◌}
use native.Mathlib.Omega.{arith}
use lib.IntN.{ℤ, pos, nat_abs}
use lib.ListN.{take, set, take-append-drop}
use lib.Seq.{sets, take_all}
use Rattle.whole.specs.Choice.{when◌then◌else◌}
use Rattle.whole.proofs.Comparisons.{tt_ff}
use Rattle.grid.specs.declared.Window.{Window}
use Rattle.slots.specs.Slots.{Slot, slots_of, strips_in, in_use, is_book, number_is, slot_numbers}
use Rattle.strip_book.specs.Renters.{is_renter, first_slot, half}
use Rattle.strip_book.proofs.Halves.{Either, renter_zero, renter_one, either, half_put, half_kept}
use Rattle.bookkeeping.specs.PlainList.{Entry, strips, Paper, leaf, on_leaf}
use Rattle.bookkeeping.specs.Runs.{entries_from, entries_of, paper_of}
use Rattle.bookkeeping.proofs.Entries.{entries_strips}
use Rattle.bookkeeping.proofs.Steps.{book_slots}

-- ---- the strips on both leaves
strips_both : (ss ts : List Slot) → strips_in (ss ++ ts) ≡ strips_in ss ++ strips_in ts
unfolding strips_in
strips_both [] ts = refl
strips_both (s ∷ ss) ts = go (in_use s) (strips_both ss ts)
  where
    go : (b : Bool) → strips_in (ss ++ ts) ≡ strips_in ss ++ strips_in ts
        → (when b then s.strip ∷ strips_in (ss ++ ts) else strips_in (ss ++ ts)) ≡ (when b then s.strip ∷ strips_in ss else strips_in ss) ++ strips_in ts
    go true e = ap (λ (ws : List Window). s.strip ∷ ws) e
    go false e = e

both_halves : (zs : List ℤ) → is_book zs ≡ true → half (pos 0) zs ++ half (pos 1) zs ≡ slots_of zs
both_halves zs b =
    let all : take 64 (slots_of zs) ≡ slots_of zs = take_all 64 (slots_of zs) (omega (arith, book_slots zs b)) in
    rw all (take-append-drop 32 (slots_of zs))

pub paper_strips : (zs : List ℤ) → is_book zs ≡ true → strips (entries_of (pos 0) zs ++ entries_of (pos 1) zs) ≡ strips_in (slots_of zs)
paper_strips zs b =
    map-append (λ (e : Entry). e.strip) (entries_of (pos 0) zs) (entries_of (pos 1) zs)
    ∙ (λ i. entries_strips 0 (half (pos 0) zs) i ++ entries_strips 0 (half (pos 1) zs) i)
    ∙ sym (strips_both (half (pos 0) zs) (half (pos 1) zs)) ∙ ap strips_in (both_halves zs b)

-- ---- a renter's leaf
pub leaf_is : (renter : ℤ) (zs : List ℤ) → is_renter renter ≡ true → leaf renter (paper_of zs) ≡ entries_of renter zs
unfolding leaf
leaf_is renter zs known = go (either renter known)
  where
    go : {z : ℤ} → Either z → leaf z (paper_of zs) ≡ entries_of z zs
    go renter_zero = refl
    go renter_one = refl

-- put back as it is
pub same_leaf : (renter : ℤ) (p : Paper) → on_leaf renter (leaf renter p) p ≡ p
unfolding leaf on_leaf
same_leaf renter p = go (number_is 0 renter) (number_is 1 renter)
  where
    go : (a b : Bool) → let es = when a then p.zero's else when b then p.one's else [] in
        (when a then record { zero's = es; one's = p.one's } else when b then record { zero's = p.zero's; one's = es } else p) ≡ p
    go true b = refl
    go false true = refl
    go false false = refl

-- there is none for one who is no renter
pub no_leaf : (renter : ℤ) (p : Paper) → is_renter renter ≡ false → leaf renter p ≡ []
unfolding leaf
no_leaf renter p = go (number_is 0 renter) (number_is 1 renter)
  where
    go : (a b : Bool) → (a || b) ≡ false → (when a then p.zero's else when b then p.one's else []) ≡ []
    go true b e = absurd (tt_ff e)
    go false true e = absurd (tt_ff e)
    go false false e = refl

pub on_no_leaf : (renter : ℤ) (es : List Entry) (p : Paper) → is_renter renter ≡ false → on_leaf renter es p ≡ p
unfolding on_leaf
on_no_leaf renter es p = go (number_is 0 renter) (number_is 1 renter)
  where
    go : (a b : Bool) → (a || b) ≡ false
        → (when a then record { zero's = es; one's = p.one's } else when b then record { zero's = p.zero's; one's = es } else p) ≡ p
    go true b e = absurd (tt_ff e)
    go false true e = absurd (tt_ff e)
    go false false e = refl

-- ---- five numbers are put in a renter's slot
pub paper_put : (renter : ℤ) (k : ℕ) (s : Slot) (zs : List ℤ) → is_renter renter ≡ true → k < 32
    → paper_of (sets zs (5 * (first_slot renter + k)) (slot_numbers s)) ≡ on_leaf renter (entries_from 0 (set (half renter zs) k s)) (paper_of zs)
unfolding on_leaf
paper_put renter k s zs known h = go (either renter known)
  where
    go : {z : ℤ} → Either z
        → paper_of (sets zs (5 * (first_slot z + k)) (slot_numbers s)) ≡ on_leaf z (entries_from 0 (set (half z zs) k s)) (paper_of zs)
    go renter_zero =
        let other = half_kept s k h zs (pos 1) (pos 0) refl refl (λ e. absurd (omega (arith, ap nat_abs e))) in
        λ i. record { zero's = entries_from 0 (half_put s k h zs (pos 0) i); one's = entries_from 0 (other i) }
    go renter_one =
        let other = half_kept s k h zs (pos 0) (pos 1) refl refl (λ e. absurd (omega (arith, ap nat_abs e))) in
        λ i. record { zero's = entries_from 0 (other i); one's = entries_from 0 (half_put s k h zs (pos 1) i) }
