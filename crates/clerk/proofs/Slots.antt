-- A booking that is done has entered the strip in a slot of the renter's, and a release that is done has freed one: nothing was refused, or the
-- answer would have the refusal's number.
use mathlib.Core.Path.{◌≡◌, refl, sym, ap, ◌∙◌}
use mathlib.Core.Bool.{true}
use mathlib.Core.List.{List}
use Prim.Native.Nat.{ℕ, ◌+◌, ◌*◌, ◌<◌}
use native.Mathlib.Omega.{arith}
use lib.IntN.{ℤ, pos, nat_abs}
use lib.ListN.{length}
use lib.Signed.{◌≤ℤ◌}
use Rattle.whole.proofs.Order.{zarith}
use Rattle.grid.specs.Calls.{Lent}
use Rattle.grid.specs.declared.Refusal.{Refusal}
use Rattle.grid.specs.declared.Window.{Window}
use Rattle.slots.specs.Slots.{Slot, lowest_free, free_slot}
use Rattle.slots.specs.Workers.{strip_in}
use Rattle.slots.proofs.Places.{slot_at_lem}
use Rattle.strip_book.specs.Books.{BookStrip, ReleaseSlot}
use Rattle.strip_book.specs.Renters.{is_renter, first_slot, half}
use Rattle.strip_book.specs.declared.BookingAnswer.{BookingAnswer}
use Rattle.strip_book.specs.declared.ReleaseAnswer.{ReleaseAnswer}
use Rattle.strip_book.proofs.Halves.{at_most_one, half_long}
use Rattle.strip_book.proofs.Refusing.{book_long, used_there}
use Rattle.bookkeeping.proofs.Answers.{lent_by, bookable, releasable}
use Rattle.bookkeeping.proofs.Steps.{room_among}
use Rattle.strip_lines.specs.Lines.{row_text}
use Rattle.clerk.specs.Commands.{held_in, SlotOf}

-- the renter has a slot of this number
pub record HasSlot (renter z : ℤ) : Type 0 where
  pub known : is_renter renter ≡ true
  pub from_zero : pos 0 ≤ℤ z
  pub below : nat_abs z < 32

pub in_table : (renter z : ℤ) → HasSlot renter z → first_slot renter + nat_abs z < 64
in_table renter z h = omega (arith, at_most_one renter h.known, h.below)

-- a call whose answer has the number 0 has refused nothing
nothing_refused : {A M : Type 0} {blank : Refusal → A} {r : Refusal} {Done : A → M → M → Type 0} {a : A} {before after : M} (number : A → ℕ)
    → number (blank r) ≡ r.number → Lent blank r Done a before after → number a ≡ 0 → r.number ≡ 0
nothing_refused number same p e = lent_by p (λ z _. z) (λ _ f. sym same ∙ ap number (sym f.answer) ∙ e)

module _ (renter : ℤ) (zs after : List ℤ) where
  pub booked_slot : (w : Window) (b : BookingAnswer) → BookStrip renter w b zs after → b.number ≡ 0 → HasSlot renter b.slot
  booked_slot w b p e =
      let z = nothing_refused (λ (x : BookingAnswer). x.number) refl p e in
      let k = bookable renter w zs z in
      let slot : b.slot ≡ pos (lowest_free (half renter zs)) = ap (λ (x : BookingAnswer). x.slot) (p.done z).answer in
      record { known = k.known; from_zero = rw slot (omega zarith); below = rw slot (room_among k) }

  pub released_slot : (z : ℤ) (b : ReleaseAnswer) → ReleaseSlot renter z b zs after → b.number ≡ 0 → HasSlot renter z
  released_slot z b p e =
      let k = releasable renter z zs (nothing_refused (λ (x : ReleaseAnswer). x.number) refl p e) in
      let there = used_there (half renter zs) z (half_long renter k.known zs (book_long zs k.book)) k.used in
      record { known = k.known; from_zero = there.0; below = there.1 }

-- ---- the row of the strip that was read in it
pub held_row : (zs : List ℤ) (renter z : ℤ) {k : ℕ} {w : Window} → 320 ≡ length zs → HasSlot renter z → SlotOf renter z k → w ≡ strip_in zs (5 * k)
    → let n = first_slot renter + nat_abs z in row_text k w ≡ row_text n (held_in zs n)
held_row zs renter z {k} {w} long h s e =
    let strip : w ≡ held_in zs k = e ∙ ap (λ (x : Slot). x.strip) (sym (slot_at_lem k zs free_slot (omega (arith, s.among)))) in
    ap (row_text k) strip ∙ ap (λ (n : ℕ). row_text n (held_in zs n)) (s.own h.known h.from_zero h.below)
