-- What a release answers, by the slot that was found in the renter's half.
use Rattle.std.proofs.Common.{◌≡◌, refl, sym, ap, ◌∙◌, subst, ℕ, ◌+◌, ◌*◌, ◌<◌, ◌≤◌, true, List, length, ℤ, arith, Option, Result, Err, Ok, nat_abs}
use Rattle.std.proofs.lemmas.List.Edits.{sets}
use Rattle.grid.proofs.Calls.{lent_refused, lent_done}
use Rattle.grid.specs.declared.Refusal.{Refusal}
use Rattle.slots.specs.Slots.{slot_numbers, free_slot, is_book}
use Rattle.strip_book.specs.Books.{release_refusal, used_at, ReleaseSlot}
use Rattle.strip_book.specs.Renters.{is_renter, first_slot, half}
use Rattle.strip_book.specs.Workers.{number_of, release_answer_of, Finds}
use Rattle.strip_book.specs.declared.Renter.{Renter}
use Rattle.strip_book.proofs.Halves.{at_most_one}
use Rattle.strip_book.proofs.Refusing.{book_long, releases}

-- the slot is found in the half of the renter who is named
pub told : (one : Renter) {renter y z : ℤ} (zs : List ℤ) (o : Option ℕ) → number_of one ≡ renter → y ≡ z → Finds (number_of one) y zs o → Finds renter z zs o
told one {renter} {y} {z} zs o e f h = subst (λ (x : ℤ). Finds x z zs o) e (subst (λ (x : ℤ). Finds (number_of one) x zs o) f h)

module _ {renter z : ℤ} {zs : List ℤ} where
  -- a refusal is handed on, and the book is as it was
  pub handed_on : {r : Result (Unit {0}) Refusal} {p q : Refusal} → r ≡ Err p → p ≡ q → release_refusal renter z zs ≡ q → (q.number ≡ 0 → ⊥)
      → ReleaseSlot renter z (release_answer_of r) zs zs
  handed_on {r} {p} {q} e f g n =
      subst (λ (s : Result (Unit {0}) Refusal). ReleaseSlot renter z (release_answer_of s) zs zs) (sym (e ∙ ap Err f)) (lent_refused g n)

-- ---- the slot k of the table is freed, which is the renter's slot z
module _ (renter z : ℤ) (zs : List ℤ) {k : ℕ} (known : is_renter renter ≡ true) (b : is_book zs ≡ true) (small : nat_abs z < 32)
    (place : k ≡ first_slot renter + nat_abs z) where
  pub within : 5 * k + 5 ≤ length zs
  within = omega (arith, small, place, at_most_one renter known, book_long zs b)

  pub freed : {after : List ℤ} → used_at (half renter zs) z ≡ true → after ≡ sets zs (5 * k) (slot_numbers free_slot)
      → ReleaseSlot renter z (release_answer_of (Ok tt)) zs after
  freed {after} u e = lent_done (releases renter z zs known b u) (record {
    answer = refl;
    book = e ∙ ap (λ (n : ℕ). sets zs (5 * n) (slot_numbers free_slot)) place;
  })
