-- One call, by its tests in their order: each test is told by slots, and no two refusals have one number.
use mathlib.Core.Path.{◌≡◌, refl, sym, ap, ◌∙◌}
use mathlib.Core.Bool.{Bool, true, false, not-eq-not}
use mathlib.Core.List.{List, [], ◌∷◌}
use mathlib.Core.Logic.{◌↔◌, ⊎_elim}
use Prim.Native.Nat.{ℕ, ◌*◌, ◌<◌}
use native.Mathlib.Nat.{zero-add}
use native.Mathlib.Omega.{arith}
use borrow.Author.Tests.{leb-true, leb-false}
use lib.Dec.{leb}
use lib.IntN.{ℤ, pos, negsuc}
use lib.ListN.{length}
use Rattle.whole.specs.Choice.{when◌then◌else◌}
use Rattle.whole.proofs.Comparisons.{ff_tt, tt_ff}
use Rattle.grid.specs.Calls.{refused_by, answered_by, written, Given}
use Rattle.grid.specs.Refusals.{window_off, no_room, none, refuse, first, window_refusal, room_refusal}
use Rattle.grid.specs.declared.Answer.{Answer}
use Rattle.grid.specs.declared.Refusal.{Refusal}
use Rattle.grid.specs.declared.Window.{Window}
use Rattle.grid.proofs.Calls.{given_cases}
use Rattle.grid.proofs.Refusals.{stops}
use Rattle.racks.specs.Areas.{shares_area}
use Rattle.racks.specs.Members.{any, all}
use Rattle.slots.specs.Slots.{Slot, slots_of, slot_at, in_use, strips_in, is_book, free_slot}
use Rattle.slots.proofs.Lowest.{used_below, lowest_none}
use Rattle.strip_book.specs.Books.{half_full, strip_taken, slot_not_in_use, renter_refusal, table_refusal, used_at, booking_refusal}
use Rattle.strip_book.specs.Books.{refused_booking, BookStrip}
use Rattle.strip_book.specs.Renters.{is_renter, half}
use Rattle.strip_book.specs.declared.BookingAnswer.{BookingAnswer}
use Rattle.strip_book.specs.declared.ReleaseAnswer.{ReleaseAnswer}
use Rattle.strip_book.proofs.Halves.{half_long, half_at}
use Rattle.strip_book.proofs.Refusing.{book_long, refuses_window, refuses_full, refuses_clash, books, refuses_slot, releases, used_there}
use Rattle.own_strips.specs.OwnStrips.{listed_from, listing_refusal}
use Rattle.own_strips.proofs.Listed.{listed_length}
use Rattle.own_strips.proofs.Refusing.{lists}
use Rattle.bookkeeping.specs.OneCall.{slot_is, SharingSlot, HalfFullExactly, StripTakenExactly, SlotInUse, SlotNotInUseExactly}
use Rattle.bookkeeping.specs.OneCall.{HalvesOfTheTable, BadWindowNext, NoRoomExactly, place_answered, rest_answered, SaysNoMore, RefusedKeeps}
use Rattle.bookkeeping.specs.Runs.{Event, booking, release, listing, number_answered, InBook}
use Rattle.bookkeeping.proofs.Answers.{lent_by, refusal_of, number_refused, answered_by_lem}
use Rattle.bookkeeping.proofs.Good.{strip_of, no_strip}
use Rattle.bookkeeping.proofs.Numbers.{refusal_placed}
use Rattle.bookkeeping.proofs.Steps.{book_slots}
use Rattle.bookkeeping.proofs.Tests.{not_all}

-- ---- where the halves are
pub halves_of_the_table : HalvesOfTheTable
halves_of_the_table k zs = (ap (λ (n : ℕ). slot_at zs n) (zero-add k), refl, λ renter l. half_at renter k zs l)

-- ---- a strip that 2 or 3 refuses
pub bad_window_next : BadWindowNext
bad_window_next renter w a before after p known b n =
    let r = refuses_window renter w before known b n in
    let m : (booking_refusal renter w before).number ≡ 0 → ⊥ = λ z. n (ap (λ (r : Refusal). r.number) (sym r) ∙ z) in
    (p.refused m).answer ∙ ap refused_booking r

-- ---- a slot in use, of either renter, that shares area
module _ (w : Window) (zs : List ℤ) where
  abbrev shared : Bool
  shared = any (shares_area w) (strips_in (slots_of zs))

  sharing_slot : is_book zs ≡ true → shared ≡ true → SharingSlot w zs
  sharing_slot b e =
      let k = strip_of (shares_area w) (slots_of zs) e in
      record { place = k.0; among = omega (arith, book_slots zs b); used = k.2; shares = k.3 }

  no_sharing_slot : shared ≡ false → SharingSlot w zs → ⊥
  no_sharing_slot e h = tt_ff (sym h.shares ∙ no_strip (shares_area w) (slots_of zs) e h.place h.used)

-- ---- all slots of a renter in use
module _ (renter : ℤ) (zs : List ℤ) (known : is_renter renter ≡ true) (b : is_book zs ≡ true) where
  abbrev hs : List Slot
  hs = half renter zs

  long : length hs ≡ 32
  long = half_long renter known zs (book_long zs b)

  each_used : all in_use hs ≡ true → (k : ℕ) → k < 32 → in_use (slot_is renter k zs) ≡ true
  each_used e k l = sym (ap in_use (half_at renter k zs l)) ∙ used_below hs k (omega (arith, lowest_none hs e, long))

  not_each_used : all in_use hs ≡ false → ((k : ℕ) → k < 32 → in_use (slot_is renter k zs) ≡ true) → ⊥
  not_each_used e h =
      let k = not_all in_use free_slot hs e in
      let l : k.0 < 32 = omega (arith, k.1, long) in
      tt_ff (sym (ap in_use (half_at renter k.0 zs l) ∙ h k.0 l) ∙ k.2)

  one_free : (k : ℕ) → k < 32 → in_use (slot_is renter k zs) ≡ false → all in_use hs ≡ false
  one_free k l f = not-eq-not.0 (λ e. tt_ff (sym (each_used e k l) ∙ f))

-- ---- the number that a booking answers, where none of 19, 23, 2 and 3 is one
module _ {renter : ℤ} {w : Window} {a : BookingAnswer} {before after : List ℤ} (p : BookStrip renter w a before after)
    (known : is_renter renter ≡ true) (b : is_book before ≡ true) (f : (window_refusal w).number ≡ 0) where
  filled : all in_use (half renter before) ≡ true → a.number ≡ half_full
  filled u = answered_by_lem (booking renter w a) before after p (refuses_full renter w before known b f u)

  module _ (u : all in_use (half renter before) ≡ false) where
    taken : shared w before ≡ true → a.number ≡ strip_taken
    taken s = answered_by_lem (booking renter w a) before after p (refuses_clash renter w before known b f u s)

    free : shared w before ≡ false → a.number ≡ 0
    free s = number_refused (booking renter w a) before after p ∙ books renter w before known b f u s

    not_filled : a.number ≡ half_full → ⊥
    not_filled n = go (shared w before) refl
      where
        go : (s : Bool) → shared w before ≡ s → ⊥
        go true s = omega (arith, n, taken s)
        go false s = omega (arith, n, free s)

pub half_full_exactly : HalfFullExactly
half_full_exactly renter w a before after p known b f = go (all in_use (half renter before)) refl
  where
    go : (t : Bool) → all in_use (half renter before) ≡ t → (a.number ≡ half_full) ↔ ((k : ℕ) → k < 32 → in_use (slot_is renter k before) ≡ true)
    go true u = (λ n. each_used renter before known b u, λ h. filled p known b f u)
    go false u = (λ n. absurd (not_filled p known b f u n), λ h. absurd (not_each_used renter before known b u h))

pub strip_taken_exactly : StripTakenExactly
strip_taken_exactly renter w a before after p known b f k l v = go (shared w before) refl
  where
    u : all in_use (half renter before) ≡ false
    u = one_free renter before known b k l v

    go : (t : Bool) → shared w before ≡ t → (a.number ≡ strip_taken) ↔ SharingSlot w before
    go true s = (λ n. sharing_slot w before b s, λ h. taken p known b f u s)
    go false s = (λ n. absurd (omega (arith, n, free p known b f u s)), λ h. absurd (no_sharing_slot w before s h))

-- ---- a slot in use that has a number
pub slot_in_use : (renter z : ℤ) (zs : List ℤ) → is_renter renter ≡ true → is_book zs ≡ true → used_at (half renter zs) z ≡ true → SlotInUse renter z zs
slot_in_use renter (pos k) zs known b u =
    let l = (used_there (half renter zs) (pos k) (long renter zs known b) u).1 in
    record { slot = k; number = refl; among = l; used = sym (ap in_use (half_at renter k zs l)) ∙ u }
slot_in_use renter (negsuc k) zs known b u = absurd (ff_tt u)

number_in_use : (renter z : ℤ) (zs : List ℤ) → SlotInUse renter z zs → used_at (half renter zs) z ≡ true
number_in_use renter z zs h = ap (used_at (half renter zs)) h.number ∙ ap in_use (half_at renter h.slot zs h.among) ∙ h.used

pub slot_not_in_use_exactly : SlotNotInUseExactly
slot_not_in_use_exactly renter z a before after p known b = go (used_at (half renter before) z) refl
  where
    go : (t : Bool) → used_at (half renter before) z ≡ t → (a.number ≡ slot_not_in_use) ↔ (SlotInUse renter z before → ⊥)
    go true u = (
      λ n. absurd (omega (arith, sym n ∙ number_refused (release renter z a) before after p ∙ releases renter z before known b u)),
      λ h. absurd (h (slot_in_use renter z before known b u)),
    )
    go false u = (
      λ n h. tt_ff (sym (number_in_use renter z before h) ∙ u),
      λ h. answered_by_lem (release renter z a) before after p (refuses_slot renter z before known b u),
    )

-- ---- room for a listing
pub no_room_exactly : NoRoomExactly
unfolding listing_refusal renter_refusal table_refusal first room_refusal
no_room_exactly renter zs a before after p known b = go (leb need (length before)) refl
  where
    need : ℕ
    need = length (listed_from 0 (half renter zs))

    answered : a.number ≡ (first ((when leb need (length before) then none else refuse no_room need) ∷ [])).number
    answered = number_refused (listing renter before a after) zs zs (p, refl) ∙ rw (known, b)

    full : ℕ
    full = 5 * length (strips_in (half renter zs))

    all_said : a.number ≡ no_room → a ≡ refused_by (refuse no_room full)
    all_said n =
        let g = p.done (lists renter zs known b) in
        ⊎_elim (λ e. e ∙ ap (λ (k : ℕ). refused_by (refuse no_room k)) (ap length g.gives ∙ listed_length 0 (half renter zs)))
        (λ q. absurd (omega (arith, n, ap (λ (x : Answer). x.number) q.0))) (given_cases g)

    go : (t : Bool) → leb need (length before) ≡ t
        → ((a.number ≡ no_room) ↔ (length before < full)) × (a.number ≡ no_room → a ≡ refused_by (refuse no_room full))
    go true t = (
      (
        λ n. absurd (omega (arith, n, rw t at answered)),
        λ h. absurd (omega (arith, h, listed_length 0 (half renter zs), leb-true need (length before) t)),
      ),
      λ n. absurd (omega (arith, n, rw t at answered)),
    )
    go false t = (
      (
        λ n. omega (arith, listed_length 0 (half renter zs), leb-false need (length before) t),
        λ h. rw t at answered,
      ),
      λ n. all_said n,
    )

-- ---- the place, and the rest of a refused answer
module _ (e : Event) (before after : List ℤ) (p : InBook before e after) where
  placed : {k : ℕ} → k ≡ (refusal_of e before).place → (number_answered e ≡ window_off → ⊥) → (number_answered e ≡ no_room → ⊥) → k ≡ 0
  placed q h k =
      let n = number_refused e before after p in
      q ∙ refusal_placed e before (λ z. h (n ∙ z)) (λ z. k (n ∙ z))

place_answered_lem : (e : Event) (before after : List ℤ) → InBook before e after → (number_answered e ≡ window_off → ⊥) → (number_answered e ≡ no_room → ⊥)
    → place_answered e ≡ 0
place_answered_lem (booking renter w a) before after p h k = lent_by p
    (λ z d. ap (λ (x : BookingAnswer). x.place) d.answer)
    (λ n r. placed (booking renter w a) before after p (ap (λ (x : BookingAnswer). x.place) r.answer) h k)
place_answered_lem (release renter z a) before after p h k = lent_by p
    (λ z d. ap (λ (x : ReleaseAnswer). x.place) d.answer)
    (λ n r. placed (release renter z a) before after p (ap (λ (x : ReleaseAnswer). x.place) r.answer) h k)
place_answered_lem (listing renter out a out') before after p h k = lent_by p.0
    (λ z d. ⊎_elim (λ e. absurd (k (ap (λ (x : Answer). x.number) e))) (λ q. ap (λ (x : Answer). x.place) q.0) (given_cases d))
    (λ n r. placed (listing renter out a out') before after p
    (ap (λ (x : Answer). x.place) r.answer ∙ ap (λ (r : Refusal). r.place) (sym (stops (listing_refusal renter before) _ n))) h k)

rest_answered_lem : (e : Event) (before after : List ℤ) → InBook before e after → (number_answered e ≡ 0 → ⊥) → rest_answered e ≡ pos 0
rest_answered_lem (booking renter w a) before after p n = lent_by p
    (λ z d. absurd (n (ap (λ (x : BookingAnswer). x.number) d.answer)))
    (λ m r. ap (λ (x : BookingAnswer). x.slot) r.answer)
rest_answered_lem (release renter z a) before after p n = refl
rest_answered_lem (listing renter out a out') before after p n = lent_by p.0
    (λ z d. ⊎_elim (λ e. ap (λ (x : Answer). pos x.count) e) (λ q. absurd (n (ap (λ (x : Answer). x.number) q.0))) (given_cases d))
    (λ m r. ap (λ (x : Answer). pos x.count) r.answer)

pub says_no_more : SaysNoMore
says_no_more e before after p = (place_answered_lem e before after p, rest_answered_lem e before after p)

-- ---- a refused call keeps all
given_keeps : {Gives : List ℤ → Type 0} {a : Answer} {out out' : List ℤ} → Given Gives a out out' → (a.number ≡ 0 → ⊥) → out' ≡ out
unfolding answered_by room_refusal written
given_keeps {a = a} {out = out} {out' = out'} g n = go (leb (length g.numbers) (length out)) refl
  where
    xs : List ℤ
    xs = g.numbers

    go : (t : Bool) → leb (length xs) (length out) ≡ t → out' ≡ out
    go true t = absurd (n (ap (λ (x : Answer). x.number) g.answer ∙ rw t))
    go false t = g.output ∙ rw t

pub refused_keeps : RefusedKeeps
refused_keeps (booking renter w a) before after p n =
    lent_by p (λ z d. absurd (n (ap (λ (x : BookingAnswer). x.number) d.answer))) (λ m r. (r.untouched, refl))
refused_keeps (release renter z a) before after p n =
    lent_by p (λ z d. absurd (n (ap (λ (x : ReleaseAnswer). x.number) d.answer))) (λ m r. (r.untouched, refl))
refused_keeps (listing renter out a out') before after p n = (p.1, lent_by p.0 (λ z d. given_keeps d n) (λ m r. r.untouched))
