-- A renter's half after a run is a replay of his own calls: each moves it as he asked, and the calls of others leave it.
use mathlib.Core.Path.{◌≡◌, refl, sym, ap, subst, ◌∙◌}
use mathlib.Core.Bool.{Bool, true, false}
use mathlib.Core.List.{List, [], ◌∷◌}
use Prim.Native.Nat.{ℕ, ◌+◌, ◌*◌, ◌<◌}
use native.Mathlib.Omega.{arith}
use borrow.Author.Tests.{eq-eqb, ne_eqb, eqb-true}
use lib.Dec.{eqb}
use lib.IntN.{ℤ, pos, negsuc, nat_abs}
use lib.ListN.{set}
use lib.Seq.{sets}
use Rattle.whole.specs.Choice.{when◌then◌else◌}
use Rattle.whole.proofs.Comparisons.{ff_tt, tt_ff}
use Rattle.grid.specs.Calls.{Refused}
use Rattle.grid.specs.declared.Window.{Window}
use Rattle.slots.specs.Slots.{Slot, is_book, lowest_free, slot_numbers, slot_of, free_slot}
use Rattle.strip_book.specs.Books.{booking_refusal, refused_booking, Booked, BookStrip, used_at, ReleaseSlot}
use Rattle.strip_book.specs.Renters.{is_renter, first_slot, half}
use Rattle.strip_book.specs.declared.BookingAnswer.{BookingAnswer}
use Rattle.strip_book.specs.declared.ReleaseAnswer.{ReleaseAnswer}
use Rattle.strip_book.proofs.Halves.{half_put, half_kept}
use Rattle.strip_book.proofs.Refusing.{refuses_releaser, refuses_slot, releases}
use Rattle.bookkeeping.specs.Runs.{Event, booking, release, listing, renter_of, InBook, RunOfCalls, no_call, a_call}
use Rattle.bookkeeping.proofs.Answers.{lent_by, bookable, releasable}
use Rattle.bookkeeping.proofs.Steps.{room_among, used_among_own, call_stays}
use Rattle.renters.specs.TwoRuns.{same_number, own_events, Asked, to_book, to_release, to_list, asks, asked}
use Rattle.renters.proofs.Told.{shown, lent_refuses, release_told, release_told_lem, listing_told, output_told, listing_told_lem, number_told}

-- ---- a call of his, told by what he is shown and what he asks: the event, and what he is shown next
abbrev told : ℤ → List Slot → Asked → Event
told renter ss (to_book w a) = booking renter w a
told renter ss (to_release z) = release renter z (release_told renter z ss)
told renter ss (to_list out) = listing renter out (listing_told renter out ss) (output_told renter out ss)

abbrev moved : List Slot → Asked → List Slot
moved ss (to_book w a) = when eqb a.number 0 then set ss (lowest_free ss) (slot_of 1 w) else ss
moved ss (to_release z) = when used_at ss z then set ss (nat_abs z) free_slot else ss
moved ss (to_list out) = ss

-- the same of all his calls
unfoldable pub tells : ℤ → List Slot → List Asked → List Event
tells renter ss [] = []
tells renter ss (x ∷ xs) = told renter ss x ∷ tells renter (moved ss x) xs

unfoldable pub replay : List Slot → List Asked → List Slot
replay ss [] = ss
replay ss (x ∷ xs) = replay (moved ss x) xs

event_told : (e : Event) (before after : List ℤ) → InBook before e after → is_book before ≡ true
    → e ≡ told (renter_of e) (shown (renter_of e) before) (asks e)
event_told (booking renter w a) before after p b = refl
event_told (release renter z a) before after p b = ap (release renter z) (release_told_lem b p)
event_told (listing renter out a out') before after p b =
    let t = listing_told_lem renter before b p.0 in
    λ i. listing renter out (t.0 i) (t.1 i)

-- ---- a call leaves the table, or changes one slot of the caller's half
data Moves (renter : ℤ) (x : Asked) (before after : List ℤ) : Type 0 where
  kept : after ≡ before → moved (shown renter before) x ≡ shown renter before → Moves renter x before after
  put : is_renter renter ≡ true → (k : ℕ) (s : Slot) → k < 32 → after ≡ sets before (5 * (first_slot renter + k)) (slot_numbers s)
      → moved (half renter before) x ≡ set (half renter before) k s → Moves renter x before after

module _ {renter : ℤ} {w : Window} {a : BookingAnswer} {before after : List ℤ} where
  booking_moves : BookStrip renter w a before after → Moves renter (to_book w a) before after
  booking_moves p = lent_by p done refused
    where
      done : (booking_refusal renter w before).number ≡ 0 → Booked renter w a before after → Moves renter (to_book w a) before after
      done z d =
          let q = bookable renter w before z in
          let zero = eq-eqb a.number 0 (number_told d.answer) in
          put q.known (lowest_free (half renter before)) (slot_of 1 w) (room_among q) d.book (rw zero)

      refused : ((booking_refusal renter w before).number ≡ 0 → ⊥) → Refused refused_booking (booking_refusal renter w before) a before after
          → Moves renter (to_book w a) before after
      refused n r = kept r.untouched (rw (ne_eqb a.number 0 (λ z. n (sym (number_told r.answer) ∙ z))))

module _ {renter z : ℤ} {a : ReleaseAnswer} {before after : List ℤ} where
  release_moves : ReleaseSlot renter z a before after → is_book before ≡ true → Moves renter (to_release z) before after
  release_moves p b = go (is_renter renter) refl (used_at (half renter before) z) refl
    where
      nothing : (y : ℤ) → moved [] (to_release y) ≡ []
      nothing (pos k) = refl
      nothing (negsuc k) = refl

      go : (k : Bool) → is_renter renter ≡ k → (u : Bool) → used_at (half renter before) z ≡ u → Moves renter (to_release z) before after
      go true k true u =
          let e = releases renter z before k b u in
          put k (nat_abs z) free_slot (used_among_own (releasable renter z before e)) (p.done e).book (rw u)
      go true k false u = kept (lent_refuses p (refuses_slot renter z before k b u) (omega arith)).untouched (rw (k, u))
      go false k u v = kept (lent_refuses p (refuses_releaser renter z before k) (omega arith)).untouched (rw k (nothing z))

call_moves : (e : Event) (before after : List ℤ) → InBook before e after → is_book before ≡ true → Moves (renter_of e) (asks e) before after
call_moves (booking renter w a) before after p b = booking_moves p
call_moves (release renter z a) before after p b = release_moves p b
call_moves (listing renter out a out') before after p b = kept p.1 refl

-- ---- so his own call moves what he is shown as he asks, and a call of another leaves it
own_moves : {renter : ℤ} {x : Asked} {before after : List ℤ} → Moves renter x before after → shown renter after ≡ moved (shown renter before) x
own_moves {renter} (kept e f) = ap (shown renter) e ∙ sym f
own_moves {renter} {before} (put known k s l e f) = rw known (ap (half renter) e ∙ half_put s k l before renter ∙ sym f)

others_leave : {renter other : ℤ} {x : Asked} {before after : List ℤ} → (other ≡ renter → ⊥) → Moves other x before after
    → shown renter after ≡ shown renter before
others_leave {renter} n (kept e f) = ap (shown renter) e
others_leave {renter} {other} {before} {after} n (put there k s l e f) = go (is_renter renter) refl
  where
    go : (b : Bool) → is_renter renter ≡ b → shown renter after ≡ shown renter before
    go true known = rw known (ap (half renter) e ∙ half_kept s k l before renter other known there n)
    go false unknown = rw unknown

-- ---- whose call it is
same_yes : (x y : ℤ) → same_number x y ≡ true → x ≡ y
same_yes (pos m) (pos n) e = ap pos (eqb-true m n e)
same_yes (negsuc m) (negsuc n) e = ap negsuc (eqb-true m n e)
same_yes (pos m) (negsuc n) e = absurd (ff_tt e)
same_yes (negsuc m) (pos n) e = absurd (ff_tt e)

same_no : (x y : ℤ) → same_number x y ≡ false → x ≡ y → ⊥
same_no x y e p = tt_ff (sym (ap (λ (z : ℤ). same_number x z) (sym p) ∙ itself x) ∙ e)
  where
    itself : (z : ℤ) → same_number z z ≡ true
    itself (pos n) = eq-eqb n n refl
    itself (negsuc n) = eq-eqb n n refl

-- ---- a run
pub record Replayed (renter : ℤ) (before : List ℤ) (es : List Event) (after : List ℤ) : Type 0 where
  pub events : own_events renter es ≡ tells renter (shown renter before) (asked renter es)
  pub slots : shown renter after ≡ replay (shown renter before) (asked renter es)

module _ (renter : ℤ) (e : Event) {before between after : List ℤ} {es : List Event} (p : InBook before e between) (b : is_book before ≡ true)
    (h : Replayed renter between es after) where
  own_first : renter_of e ≡ renter → same_number (renter_of e) renter ≡ true → Replayed renter before (e ∷ es) after
  unfolding own_events tells replay
  own_first q t = record {
    events = rw t (λ i. event i ∷ (h.events ∙ ap (λ (ss : List Slot). tells renter ss (asked renter es)) moves) i);
    slots = rw t (h.slots ∙ ap (λ (ss : List Slot). replay ss (asked renter es)) moves);
  }
    where
      event : e ≡ told renter (shown renter before) (asks e)
      event = event_told e before between p b ∙ ap (λ (r : ℤ). told r (shown r before) (asks e)) q

      moves : shown renter between ≡ moved (shown renter before) (asks e)
      moves = subst (λ r. shown r between ≡ moved (shown r before) (asks e)) q (own_moves (call_moves e before between p b))

  other_first : (renter_of e ≡ renter → ⊥) → same_number (renter_of e) renter ≡ false → Replayed renter before (e ∷ es) after
  unfolding own_events
  other_first n t =
      let left = others_leave n (call_moves e before between p b) in
      record {
        events = rw t (h.events ∙ ap (λ (ss : List Slot). tells renter ss (asked renter es)) left);
        slots = rw t (h.slots ∙ ap (λ (ss : List Slot). replay ss (asked renter es)) left);
      }

pub replayed : (renter : ℤ) {before after : List ℤ} {es : List Event} → RunOfCalls InBook before es after → is_book before ≡ true
    → Replayed renter before es after
unfolding own_events tells replay
replayed renter no_call b = record { events = refl; slots = refl }
replayed renter (a_call {before} {between} {after} {e} {events = es} p r) b =
    go (same_number (renter_of e) renter) refl (replayed renter r (call_stays e before between p b))
  where
    go : (t : Bool) → same_number (renter_of e) renter ≡ t → Replayed renter between es after → Replayed renter before (e ∷ es) after
    go true t h = own_first renter e p b h (same_yes (renter_of e) renter t) t
    go false t h = other_first renter e p b h (same_no (renter_of e) renter t) t
