-- The number that a call answers: 19 to one who is no renter, 23 to a renter whose table is no book, and a lesser one to each other, since all other
-- refusals have lesser numbers. And all but 2 and 8 have the place 0.
use mathlib.Core.Path.{◌≡◌, refl, ap}
use mathlib.Core.Bool.{Bool, true, false, ◌&&◌}
use mathlib.Core.List.{List}
use Prim.Native.Nat.{ℕ, ◌<◌}
use native.Mathlib.Omega.{arith}
use lib.Dec.{eqb, leb, ltb}
use lib.IntN.{ℤ}
use lib.ListN.{length}
use lib.Signed.{lt_z}
use Rattle.whole.specs.Choice.{when◌then◌else◌}
use Rattle.whole.proofs.Comparisons.{by-test}
use Rattle.grid.specs.Refusals.{window_off, no_window, no_room, none, refuse, first, off_table, no_area, window_refusal, room_refusal}
use Rattle.grid.specs.Table.{first_off, sides}
use Rattle.grid.specs.declared.Refusal.{Refusal}
use Rattle.grid.specs.declared.Window.{Window}
use Rattle.racks.specs.Areas.{shares_area}
use Rattle.racks.specs.Members.{any, all}
use Rattle.rings.specs.Lists.{All, ∅, ◌◂◌}
use Rattle.slots.specs.Slots.{slots_of, in_use, strips_in, is_book}
use Rattle.strip_book.specs.Books.{unknown_renter, no_book, half_full, strip_taken, slot_not_in_use}
use Rattle.strip_book.specs.Books.{renter_refusal, table_refusal, none_free, clash, used_at, slot_refusal, booking_refusal, release_refusal}
use Rattle.strip_book.specs.Renters.{is_renter, half}
use Rattle.strip_book.proofs.Refusing.{refuses_renter, refuses_table, refuses_releaser, refuses_release}
use Rattle.own_strips.specs.OwnStrips.{listed_from, listing_refusal}
use Rattle.bookkeeping.specs.Runs.{Event, booking, release, listing, renter_of, number_answered, InBook}
use Rattle.bookkeeping.proofs.Answers.{room_for, refusal_of, number_refused, answered_by_lem}

-- ---- the refusals but 19 and 23
pub record Lesser (r : Refusal) : Type 0 where
  pub below : r.number < unknown_renter
  pub placed : (r.number ≡ window_off → ⊥) → (r.number ≡ no_room → ⊥) → r.place ≡ 0

lesser : (n : ℕ) → n < unknown_renter → Lesser (refuse n 0)
lesser n l = record { below = l; placed = λ _ _. refl }

nothing : Lesser none
nothing = lesser 0 (omega arith)

by_either : (b : Bool) {x y : Refusal} → Lesser x → Lesser y → Lesser (when b then x else y)
by_either b h k = by-test b Lesser (λ _. h) (λ _. k)

first_lesser : {rs : List Refusal} → All Lesser rs → Lesser (first rs)
unfolding first
first_lesser ∅ = nothing
first_lesser (◌◂◌ {x = r} {xs = rs} h hs) = by_either (eqb r.number 0) (first_lesser hs) h

window_lesser : (w : Window) → Lesser (window_refusal w)
unfolding window_refusal off_table no_area
window_lesser w =
    let k = first_off (sides w) in
    let at : Lesser (refuse window_off k) = record { below = omega arith; placed = λ h _. absurd (h refl) } in
    let off : Lesser (off_table window_off (sides w)) = by_either (ltb k 4) at nothing in
    let area = lt_z w.left w.right && lt_z w.bottom w.top in
    let flat : Lesser (no_area w) = by_either area nothing (lesser no_window (omega arith)) in
    first_lesser (off ◂ flat ◂ ∅)

-- ---- a renter with a book
refusal_lesser : (e : Event) (zs : List ℤ) → Lesser (renter_refusal (renter_of e)) → Lesser (table_refusal zs) → Lesser (refusal_of e zs)
unfolding booking_refusal none_free clash release_refusal slot_refusal listing_refusal room_refusal
refusal_lesser (booking renter w a) zs h t =
    let filled : Lesser (none_free renter zs) = by_either (all in_use (half renter zs)) (lesser half_full (omega arith)) nothing in
    let taken : Lesser (clash w zs) = by_either (any (shares_area w) (strips_in (slots_of zs))) (lesser strip_taken (omega arith)) nothing in
    first_lesser (h ◂ t ◂ window_lesser w ◂ filled ◂ taken ◂ ∅)
refusal_lesser (release renter z a) zs h t =
    let free : Lesser (slot_refusal renter z zs) = by_either (used_at (half renter zs) z) nothing (lesser slot_not_in_use (omega arith)) in
    first_lesser (h ◂ t ◂ free ◂ ∅)
refusal_lesser (listing renter out a out') zs h t =
    let need = length (listed_from 0 (half renter zs)) in
    let needed : Lesser (refuse no_room need) = record { below = omega arith; placed = λ _ h. absurd (h refl) } in
    let short : Lesser (room_for renter zs out) = by_either (leb need (length out)) nothing needed in
    first_lesser (first_lesser (h ◂ t ◂ ∅) ◂ short ◂ ∅)

of_renter : (e : Event) (zs : List ℤ) → is_renter (renter_of e) ≡ true → is_book zs ≡ true → Lesser (refusal_of e zs)
unfolding renter_refusal table_refusal
of_renter e zs known b = refusal_lesser e zs (rw known nothing) (rw b nothing)

pub answers_lesser : (e : Event) (before after : List ℤ) → InBook before e after → is_renter (renter_of e) ≡ true → is_book before ≡ true
    → number_answered e < unknown_renter
answers_lesser e before after p known b = rw (number_refused e before after p) (of_renter e before known b).below

-- ---- no renter, and a renter whose table is no book
refusal_unknown : (e : Event) (zs : List ℤ) → is_renter (renter_of e) ≡ false → refusal_of e zs ≡ refuse unknown_renter 0
unfolding listing_refusal renter_refusal first
refusal_unknown (booking renter w a) zs h = refuses_renter renter w zs h
refusal_unknown (release renter z a) zs h = refuses_releaser renter z zs h
refusal_unknown (listing renter out a out') zs h = rw h

refusal_no_book : (e : Event) (zs : List ℤ) → is_renter (renter_of e) ≡ true → is_book zs ≡ false → refusal_of e zs ≡ refuse no_book 0
unfolding listing_refusal renter_refusal table_refusal first
refusal_no_book (booking renter w a) zs known b = refuses_table renter w zs known b
refusal_no_book (release renter z a) zs known b = refuses_release renter z zs known b
refusal_no_book (listing renter out a out') zs known b = rw (known, b)

-- ---- the place of a refusal
pub refusal_placed : (e : Event) (zs : List ℤ) → ((refusal_of e zs).number ≡ window_off → ⊥) → ((refusal_of e zs).number ≡ no_room → ⊥)
    → (refusal_of e zs).place ≡ 0
refusal_placed e zs h k = go (is_renter (renter_of e)) (is_book zs) refl refl
  where
    go : (t u : Bool) → is_renter (renter_of e) ≡ t → is_book zs ≡ u → (refusal_of e zs).place ≡ 0
    go true true known b = (of_renter e zs known b).placed h k
    go true false known b = ap (λ (r : Refusal). r.place) (refusal_no_book e zs known b)
    go false u known b = ap (λ (r : Refusal). r.place) (refusal_unknown e zs known)

module _ (e : Event) (before after : List ℤ) (p : InBook before e after) where
  pub answers_unknown : is_renter (renter_of e) ≡ false → number_answered e ≡ unknown_renter
  answers_unknown h = answered_by_lem e before after p (refusal_unknown e before h)

  pub answers_no_book : is_renter (renter_of e) ≡ true → is_book before ≡ false → number_answered e ≡ no_book
  answers_no_book known b = answered_by_lem e before after p (refusal_no_book e before known b)
