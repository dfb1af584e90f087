-- A call answers 19 exactly when there is no such renter, and a renter's call 23 exactly when the table has a fault: the tests find the slots at
-- fault.
use mathlib.Core.Path.{◌≡◌, refl, sym, ap, ◌∙◌}
use mathlib.Core.Bool.{Bool, true, false, ◌&&◌, ◌||◌}
use mathlib.Core.List.{List}
use mathlib.Core.Logic.{◌↔◌}
use Prim.Native.Nat.{ℕ}
use native.Mathlib.Omega.{arith}
use borrow.Author.Tests.{eqb-true, eqb-false}
use lib.Dec.{eqb}
use lib.IntN.{ℤ, pos, negsuc}
use lib.ListN.{length, get_or}
use Rattle.whole.proofs.Comparisons.{ff_tt, tt_ff}
use Rattle.slots.specs.Slots.{Slot, slots_of, number_is, good_mark, slots_good, is_book, free_slot}
use Rattle.slots.proofs.Places.{slots_count}
use Rattle.strip_book.specs.Books.{unknown_renter, no_book}
use Rattle.strip_book.specs.Renters.{is_renter}
use Rattle.strip_book.proofs.Halves.{Either, renter_zero, renter_one, either}
use Rattle.strip_book.proofs.Refusing.{book_long}
use Rattle.bookkeeping.specs.OneCall.{NotABook, another_length, another_mark, refused_strip, shared_area, UnknownRenterExactly, NoBookExactly}
use Rattle.bookkeeping.specs.Runs.{Event, renter_of, number_answered, InBook}
use Rattle.bookkeeping.proofs.Good.{Fault, mark_fault, strip_fault, area_fault, faulty_slots}
use Rattle.bookkeeping.proofs.Numbers.{answers_lesser, answers_unknown, answers_no_book}
use Rattle.bookkeeping.proofs.Steps.{book_good}

-- ---- the tests of a mark
is_number : (n : ℕ) (z : ℤ) → number_is n z ≡ true → z ≡ pos n
is_number n (pos m) e = ap pos (eqb-true m n e)
is_number n (negsuc m) e = absurd (ff_tt e)

good_marked : (s : Slot) → good_mark s ≡ true → (s.mark ≡ pos 0 → ⊥) → (s.mark ≡ pos 1 → ⊥) → ⊥
good_marked s = go (number_is 0 s.mark) (number_is 1 s.mark) refl refl
  where
    go : (a b : Bool) → number_is 0 s.mark ≡ a → number_is 1 s.mark ≡ b → (a || b) ≡ true
        → (s.mark ≡ pos 0 → ⊥) → (s.mark ≡ pos 1 → ⊥) → ⊥
    go true b p q e f g = f (is_number 0 s.mark p)
    go false b p q e f g = g (is_number 1 s.mark (q ∙ e))

-- ---- the faults of a table
a_fault : (zs : List ℤ) → length zs ≡ 320 → Fault (slots_of zs) → NotABook zs
a_fault zs l (mark_fault k h e) = another_mark k (omega (arith, slots_count zs))
    (λ m. tt_ff (sym (ap (λ (z : ℤ). number_is 0 z || number_is 1 z) m) ∙ e))
    (λ m. tt_ff (sym (ap (λ (z : ℤ). number_is 0 z || number_is 1 z) m) ∙ e))
a_fault zs l (strip_fault k h u e) = refused_strip k (omega (arith, slots_count zs)) (is_number 1 _ u) (eqb-false _ _ e)
a_fault zs l (area_fault h) =
    shared_area h.one h.other h.before (omega (arith, slots_count zs))
    (is_number 1 _ h.used_one) (is_number 1 _ h.used_other) h.shares

not_a_book : (zs : List ℤ) → is_book zs ≡ false → NotABook zs
unfolding is_book
not_a_book zs = go (eqb (length zs) 320) refl
  where
    go : (b : Bool) → eqb (length zs) 320 ≡ b → (b && slots_good (slots_of zs)) ≡ false → NotABook zs
    go true l e = a_fault zs (eqb-true (length zs) 320 l) (faulty_slots (slots_of zs) e)
    go false l e = another_length (eqb-false (length zs) 320 l)

no_book_no_fault : (zs : List ℤ) → is_book zs ≡ true → NotABook zs → ⊥
no_book_no_fault zs b (another_length n) = n (book_long zs b)
no_book_no_fault zs b (another_mark k h m n) = good_marked (get_or (slots_of zs) k free_slot) ((book_good zs b).marks k) m n
no_book_no_fault zs b (refused_strip k h m e) = e (eqb-true _ _ ((book_good zs b).strips k (ap (number_is 1) m)))
no_book_no_fault zs b (shared_area j k h l m n e) = tt_ff (sym e ∙ (book_good zs b).areas j k h (ap (number_is 1) m) (ap (number_is 1) n))

-- ---- 19
neither : (renter : ℤ) → is_renter renter ≡ true → (renter ≡ pos 0 → ⊥) × (renter ≡ pos 1 → ⊥) → ⊥
neither renter known = go (either renter known)
  where
    go : {z : ℤ} → Either z → (z ≡ pos 0 → ⊥) × (z ≡ pos 1 → ⊥) → ⊥
    go renter_zero n = n.0 refl
    go renter_one n = n.1 refl

not_unknown : (e : Event) (before after : List ℤ) → InBook before e after → is_renter (renter_of e) ≡ true → number_answered e ≡ unknown_renter → ⊥
not_unknown e before after p known q = go (is_book before) refl
  where
    go : (b : Bool) → is_book before ≡ b → ⊥
    go true b = omega (arith, answers_lesser e before after p known b, q)
    go false b = omega (arith, answers_no_book e before after p known b, q)

pub unknown_renter_exactly : UnknownRenterExactly
unknown_renter_exactly e before after p = go (is_renter (renter_of e)) refl
  where
    go : (t : Bool) → is_renter (renter_of e) ≡ t → (number_answered e ≡ unknown_renter) ↔ ((renter_of e ≡ pos 0 → ⊥) × (renter_of e ≡ pos 1 → ⊥))
    go true known = (λ n. absurd (not_unknown e before after p known n), λ h. absurd (neither (renter_of e) known h))
    go false h = (λ n. (λ q. tt_ff (sym (ap is_renter q) ∙ h), λ q. tt_ff (sym (ap is_renter q) ∙ h)), λ n. answers_unknown e before after p h)

-- ---- 23
pub call_never : (e : Event) (before after : List ℤ) → InBook before e after → is_book before ≡ true → number_answered e ≡ no_book → ⊥
call_never e before after p b q = go (is_renter (renter_of e)) refl
  where
    go : (t : Bool) → is_renter (renter_of e) ≡ t → ⊥
    go true known = omega (arith, answers_lesser e before after p known b, q)
    go false h = omega (arith, answers_unknown e before after p h, q)

pub no_book_exactly : NoBookExactly
no_book_exactly e before after p known = go (is_book before) refl
  where
    go : (b : Bool) → is_book before ≡ b → (number_answered e ≡ no_book) ↔ NotABook before
    go true b = (λ n. absurd (call_never e before after p b n), λ h. absurd (no_book_no_fault before b h))
    go false b = (λ n. not_a_book before b, λ h. answers_no_book e before after p known b)
