-- What a listing answers, where it refuses, has too little room, or has written all.
use Rattle.std.proofs.Common.{◌≡◌, refl, sym, ap, ◌∙◌, subst, ℕ, ◌+◌, ◌≤◌, ◌<◌, true, false, Bool, List, length, ℤ, arith, Result, Err, Ok, to_z, of_z, w32}
use Rattle.std.proofs.Math.Seq.{slice}
use borrow.Author.Tests.{leb-true, leb-false, le-leb}
use lib.Dec.{leb}
use mir.Val.{SFits}
use Rattle.std.specs.Bool.{⊤}
use Rattle.whole.specs.Choice.{when◌then◌else◌}
use Rattle.grid.specs.Calls.{written}
use Rattle.grid.specs.Refusals.{no_room, none, refuse, room_refusal, tested}
use Rattle.grid.specs.declared.Refusal.{Refusal}
use Rattle.grid.proofs.Tested.{says_fine, was_fine, was_refused}
use Rattle.grid.proofs.Calls.{lent_refused, lent_done, given_short, given_whole}
use Rattle.slots.specs.Slots.{slots_of, is_book}
use Rattle.strip_book.specs.Renters.{is_renter, first_slot, half}
use Rattle.strip_book.specs.Workers.{number_of}
use Rattle.strip_book.specs.declared.Renter.{Renter}
use Rattle.strip_book.proofs.Booking.{there, named}
use Rattle.own_strips.specs.OwnStrips.{listed_from, listing_refusal, listing_answer, ListStrips}
use Rattle.own_strips.proofs.Refusing.{lists}

-- ---- the test of the room
pub has_room : (need room : ℕ) → (room_refusal need room).number ≡ 0 → need ≤ room
unfolding room_refusal
has_room need room h = go (leb need room) refl h
  where
    go : (b : Bool) → leb need room ≡ b → (when b then none else refuse no_room need).number ≡ 0 → need ≤ room
    go true e h = leb-true need room e
    go false e h = absurd (omega arith)

pub enough_room : (need room : ℕ) → need ≤ room → Ok tt ≡ tested (room_refusal need room)
unfolding room_refusal
enough_room need room h = says_fine (room_refusal need room) (rw (le-leb need room h) refl)

pub no_room_for : (need room : ℕ) → ((room_refusal need room).number ≡ 0 → ⊥) → (room < need) × (room_refusal need room ≡ refuse no_room need)
unfolding room_refusal
no_room_for need room h = go (leb need room) refl h
  where
    go : (b : Bool) → leb need room ≡ b → ((when b then none else refuse no_room need).number ≡ 0 → ⊥)
        → (room < need) × ((when b then none else refuse no_room need) ≡ refuse no_room need)
    go true e h = absurd (h refl)
    go false e h = (leb-false need room e, refl)

-- ---- a refusal is handed on, and the output is as it was
pub handed_on : (renter : ℤ) (zs : List ℤ) {out : List ℤ} {r : Result ℕ Refusal} {p q : Refusal} → r ≡ Err p → p ≡ q → listing_refusal renter zs ≡ q
    → (q.number ≡ 0 → ⊥) → ListStrips renter zs (listing_answer r) out out
handed_on renter zs {out} {r} {p} {q} e f g n =
    subst (λ (s : Result ℕ Refusal). ListStrips renter zs (listing_answer s) out out) (sym (e ∙ ap Err f)) (lent_refused g n)

-- ---- a book, and where the renter's half begins
pub record Begun (renter : ℤ) (zs : List ℤ) (from : ℕ) : Type 0 where
  pub known : is_renter renter ≡ true
  pub sound : is_book zs ≡ true
  pub begins : from ≡ first_slot renter

pub begun : {renter : ℤ} {zs : List ℤ} {from : ℕ} (one : Renter) → SFits w32 renter → number_of one ≡ to_z w32 (of_z w32 renter)
    → is_book zs ≡ true → from ≡ first_slot (number_of one) → Begun renter zs from
begun one h e b l = record { known = there one (named one h e); sound = b; begins = l ∙ ap first_slot (named one h e) }

module _ {renter : ℤ} {zs : List ℤ} {from : ℕ} (h : Begun renter zs from) where
  own : listed_from 0 (slice from (from + 32) (slots_of zs)) ≡ listed_from 0 (half renter zs)
  own = ap (λ (f : ℕ). listed_from 0 (slice f (f + 32) (slots_of zs))) h.begins

  abbrev listing : List ℤ
  listing = listed_from 0 (slice from (from + 32) (slots_of zs))

  -- it needs more room
  pub short : {out : List ℤ} {r : Result ℕ Refusal} {p q : Refusal} → r ≡ Err p → p ≡ q
      → Err q ≡ tested (room_refusal (length listing) (length out)) → ListStrips renter zs (listing_answer r) out out
  short {out} {r} {p} {q} e f t =
      let bad = was_refused (room_refusal (length listing) (length out)) t in
      let s = no_room_for (length listing) (length out) bad.1 in
      let less : length out < length (listed_from 0 (half renter zs)) = omega (arith, s.0, ap length own) in
      subst (λ (r : Result ℕ Refusal). ListStrips renter zs (listing_answer r) out out)
      (sym (e ∙ ap Err (f ∙ bad.0 ∙ s.1 ∙ ap (λ (xs : List ℤ). refuse no_room (length xs)) own)))
      (lent_done (lists renter zs h.known h.sound) (given_short _ refl less))

  -- all is written
  pub whole : {u : ⊤} {n : ℕ} {out after : List ℤ} → Ok u ≡ tested (room_refusal (length listing) (length out)) → n ≡ length listing
      → after ≡ written listing out → ListStrips renter zs (listing_answer (Ok n)) out after
  whole {u} {n} {out} {after} t count wrote =
      let fits = has_room (length listing) (length out) (was_fine (room_refusal (length listing) (length out)) t) in
      rw (count ∙ ap length own)
      (lent_done (lists renter zs h.known h.sound)
      (given_whole _ refl (omega (arith, fits, ap length own)) (wrote ∙ ap (λ (xs : List ℤ). written xs out) own)))
