-- What a booking has found out when it looks for a slot, and what follows for its answer: by the place k that was found, and by whether the strip
-- shares area with another.
use Rattle.std.proofs.Common.{◌≡◌, refl, sym, ap, ◌∙◌, subst, ℕ, ◌+◌, ◌-◌, ◌*◌, ◌<◌, ◌≤◌, true, false, List, length, ℤ, pos, arith, Option, Some, None, Result, Err, to_z, of_z, w32}
use Rattle.std.proofs.lemmas.List.Edits.{sets}
use Rattle.std.specs.Option.{ok_or}
use Rattle.std.proofs.Math.Seq.{slice}
use mir.Val.{SFits}
use mir.Facts.{to_z-of_z, to_z_pos}
use Rattle.grid.proofs.Calls.{lent_refused, lent_done}
use Rattle.grid.specs.Refusals.{refuse, window_refusal}
use Rattle.grid.specs.declared.Refusal.{Refusal}
use Rattle.grid.specs.declared.Window.{Window}
use Rattle.racks.specs.Areas.{shares_area}
use Rattle.racks.specs.Members.{any, all}
use Rattle.slots.specs.Slots.{Slot, slots_of, slot_of, slot_numbers, strips_in, in_use, is_book, lowest_free}
use Rattle.strip_book.specs.Books.{booking_refusal, half_full, strip_taken, BookStrip}
use Rattle.strip_book.specs.Renters.{is_renter, first_slot, half}
use Rattle.strip_book.specs.Workers.{number_of, booking_answer}
use Rattle.strip_book.specs.declared.Renter.{Renter}
use Rattle.strip_book.specs.declared.Renter.TheVariants.{First, Second}
use Rattle.strip_book.proofs.Halves.{half_long, at_most_one}
use Rattle.strip_book.proofs.Refusing.{book_long, all_used, not_all_used, refuses_full, refuses_clash, books}

-- ---- the renter that a number names
pub there : (one : Renter) {z : ℤ} → number_of one ≡ z → is_renter z ≡ true
there First e = subst (λ (z : ℤ). is_renter z ≡ true) e refl
there Second e = subst (λ (z : ℤ). is_renter z ≡ true) e refl

pub named : (one : Renter) {z : ℤ} → SFits w32 z → number_of one ≡ to_z w32 (of_z w32 z) → number_of one ≡ z
named one h e = e ∙ to_z-of_z h

-- ---- no value, and so a refusal in its place
pub no_value : {A : Type 0} (o : Option A) (p q : Refusal) → o ≡ None → Err p ≡ ok_or o q → p ≡ q
no_value None p q e f = cc
no_value (Some x) p q e f = cc

-- ---- a refusal is handed on, and the book is as it was
module _ {renter : ℤ} {w : Window} {zs : List ℤ} where
  pub handed_on : {r : Result ℤ Refusal} {p q : Refusal} → r ≡ Err p → p ≡ q → booking_refusal renter w zs ≡ q → (q.number ≡ 0 → ⊥)
      → BookStrip renter w (booking_answer r) zs zs
  handed_on {r} {p} {q} e f g n =
      subst (λ (s : Result ℤ Refusal). BookStrip renter w (booking_answer s) zs zs) (sym (e ∙ ap Err f)) (lent_refused g n)

-- ---- a slot is looked for in the renter's half, from the place `from` on
pub record Looked (renter : ℤ) (w : Window) (zs : List ℤ) (from k : ℕ) : Type 0 where
  pub known : is_renter renter ≡ true
  pub sound : is_book zs ≡ true
  pub fine : (window_refusal w).number ≡ 0
  pub begins : from ≡ first_slot renter
  pub found : k ≡ from + lowest_free (slice from (from + 32) (slots_of zs))

pub looked : {renter : ℤ} {w : Window} {zs : List ℤ} {from k : ℕ} (one : Renter) → SFits w32 renter → number_of one ≡ to_z w32 (of_z w32 renter)
    → is_book zs ≡ true → (window_refusal w).number ≡ 0 → from ≡ first_slot (number_of one)
    → k ≡ from + lowest_free (slice from (from + 32) (slots_of zs)) → Looked renter w zs from k
looked one h e b f l m = record {
  known = there one (named one h e);
  sound = b;
  fine = f;
  begins = l ∙ ap first_slot (named one h e);
  found = m;
}

module _ {renter : ℤ} {w : Window} {zs : List ℤ} {from k : ℕ} (h : Looked renter w zs from k) where
  abbrev own : List Slot
  own = half renter zs

  own_long : length own ≡ 32
  own_long = half_long renter h.known zs (book_long zs h.sound)

  place : k ≡ first_slot renter + lowest_free own
  place = h.found ∙ ap (λ (n : ℕ). n + lowest_free (slice n (n + 32) (slots_of zs))) h.begins

  pub full : k ≡ from + 32 → booking_refusal renter w zs ≡ refuse half_full 0
  full e = refuses_full renter w zs h.known h.sound h.fine (all_used own own_long (omega (arith, place, h.begins, e)))

  module _ (n : k ≡ from + 32 → ⊥) where
    free : (all in_use own ≡ false) × (lowest_free own < 32)
    free = not_all_used own own_long (λ e. n (omega (arith, e, place, h.begins)))

    -- the slot in the renter's half, which is one of 32
    pub within : (k - from ≡ lowest_free own) × (k - from < 32) × (5 * k + 5 ≤ length zs)
    within =
        let f = free in
        let o = at_most_one renter h.known in
        (omega (arith, place, h.begins), omega (arith, place, h.begins, f.1), omega (arith, place, f.1, o, book_long zs h.sound))

    pub taken : any (shares_area w) (strips_in (slots_of zs)) ≡ true → booking_refusal renter w zs ≡ refuse strip_taken 0
    taken e = refuses_clash renter w zs h.known h.sound h.fine (free).0 e

    pub entered : {after : List ℤ} → any (shares_area w) (strips_in (slots_of zs)) ≡ false → after ≡ sets zs (5 * k) (slot_numbers (slot_of 1 w))
        → BookStrip renter w (record { number = 0; place = 0; slot = to_z w32 (k - from) }) zs after
    entered {after} e b =
        lent_done (books renter w zs h.known h.sound h.fine (free).0 e)
        (record {
          answer = ap (λ (z : ℤ). record { number = 0; place = 0; slot = z }) (to_z_pos w32 (omega (arith, within.1)) ∙ ap pos within.0);
          book = b ∙ ap (λ (j : ℕ). sets zs (5 * j) (slot_numbers (slot_of 1 w))) place;
        })
