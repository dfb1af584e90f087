-- The number that a call answers is that of the first of its refusals that applies; and what is known where none does.
use mathlib.Core.Path.{◌≡◌, refl, sym, ap, ◌∙◌}
use mathlib.Core.Bool.{Bool, true, false}
use mathlib.Core.List.{List, [], ◌∷◌}
use Prim.Native.Nat.{ℕ}
use native.Mathlib.Omega.{arith}
use borrow.Author.Tests.{eq-eqb, eqb-true, eqb-false}
use lib.Dec.{eqb}
use lib.IntN.{ℤ}
use lib.ListN.{length}
use Rattle.whole.specs.Choice.{when◌then◌else◌}
use Rattle.grid.specs.Calls.{Refused, Lent, refused_by, gives_all, answered_by, Given}
use Rattle.grid.specs.Refusals.{none, refuse, first, window_refusal, room_refusal}
use Rattle.grid.specs.declared.Answer.{Answer}
use Rattle.grid.specs.declared.Refusal.{Refusal}
use Rattle.grid.specs.declared.Window.{Window}
use Rattle.grid.proofs.Refusals.{stops, goes_on, all_done}
use Rattle.racks.specs.Areas.{shares_area}
use Rattle.racks.specs.Members.{any, all}
use Rattle.slots.specs.Slots.{slots_of, in_use, strips_in, good_strip, is_book}
use Rattle.strip_book.specs.Books.{unknown_renter, no_book, half_full, strip_taken, slot_not_in_use}
use Rattle.strip_book.specs.Books.{renter_refusal, table_refusal, none_free, clash, used_at, slot_refusal, booking_refusal, release_refusal}
use Rattle.strip_book.specs.Renters.{is_renter, half}
use Rattle.strip_book.specs.declared.BookingAnswer.{BookingAnswer}
use Rattle.strip_book.specs.declared.ReleaseAnswer.{ReleaseAnswer}
use Rattle.own_strips.specs.OwnStrips.{listed_from, listing_refusal, ListStrips}
use Rattle.bookkeeping.specs.Runs.{Event, booking, release, listing, number_answered, InBook}

-- ---- a call is done, or refuses
pub lent_by : {A M G : Type 0} {blank : Refusal → A} {r : Refusal} {Done : A → M → M → Type 0} {a : A} {before after : M}
    → Lent blank r Done a before after → (r.number ≡ 0 → Done a before after → G)
    → ((r.number ≡ 0 → ⊥) → Refused blank r a before after → G) → G
lent_by {G} {r} p f g = go (eqb r.number 0) refl
  where
    go : (t : Bool) → eqb r.number 0 ≡ t → G
    go true t = let z = eqb-true r.number 0 t in f z (p.done z)
    go false t = let n = eqb-false r.number 0 t in g n (p.refused n)

-- ---- the refusal of an event's call on a table: a listing is refused last for want of room
abbrev pub room_for : ℤ → List ℤ → List ℤ → Refusal
room_for renter zs out = room_refusal (length (listed_from 0 (half renter zs))) (length out)

abbrev pub refusal_of : Event → List ℤ → Refusal
refusal_of (booking renter w a) zs = booking_refusal renter w zs
refusal_of (release renter z a) zs = release_refusal renter z zs
refusal_of (listing renter out a out') zs = first (listing_refusal renter zs ∷ room_for renter zs out ∷ [])

-- its number is answered: 0 where the call is done
given_number : (xs : List ℤ) (room : ℕ) → (answered_by refused_by gives_all xs room).number ≡ (first (room_refusal (length xs) room ∷ [])).number
unfolding answered_by first
given_number xs room = go (eqb (room_refusal (length xs) room).number 0)
  where
    go : (b : Bool) → (when b then gives_all xs else refused_by (room_refusal (length xs) room)).number
        ≡ (when b then none else room_refusal (length xs) room).number
    go true = refl
    go false = refl

listing_number : (renter : ℤ) (zs out : List ℤ) (a : Answer) (out' : List ℤ) → ListStrips renter zs a out out'
    → a.number ≡ (refusal_of (listing renter out a out') zs).number
listing_number renter zs out a out' p = lent_by p
    (λ z d. given z d ∙ ap (λ (r : Refusal). r.number) (sym (goes_on (listing_refusal renter zs) _ z)))
    (λ n r. ap (λ (x : Answer). x.number) r.answer ∙ ap (λ (r : Refusal). r.number) (sym (stops (listing_refusal renter zs) _ n)))
  where
    given : (listing_refusal renter zs).number ≡ 0 → Given (λ xs. xs ≡ listed_from 0 (half renter zs)) a out out'
        → a.number ≡ (first (room_for renter zs out ∷ [])).number
    given z d =
        ap (λ (x : Answer). x.number) d.answer ∙ given_number d.numbers (length out)
        ∙ ap (λ (xs : List ℤ). (first (room_refusal (length xs) (length out) ∷ [])).number) d.gives

pub number_refused : (e : Event) (before after : List ℤ) → InBook before e after → number_answered e ≡ (refusal_of e before).number
number_refused (booking renter w a) before after p = lent_by p
    (λ z d. ap (λ (x : BookingAnswer). x.number) d.answer ∙ sym z)
    (λ n r. ap (λ (x : BookingAnswer). x.number) r.answer)
number_refused (release renter z a) before after p = lent_by p
    (λ z d. ap (λ (x : ReleaseAnswer). x.number) d.answer ∙ sym z)
    (λ n r. ap (λ (x : ReleaseAnswer). x.number) r.answer)
number_refused (listing renter out a out') before after p = listing_number renter before out a out' p.0

pub answered_by_lem : (e : Event) (before after : List ℤ) {r : Refusal} → InBook before e after → refusal_of e before ≡ r → number_answered e ≡ r.number
answered_by_lem e before after p q = number_refused e before after p ∙ ap (λ (r : Refusal). r.number) q

-- ---- what is known where nothing is refused
pub passed : (b : Bool) (n : ℕ) → (n ≡ 0 → ⊥) → (when b then none else refuse n 0).number ≡ 0 → b ≡ true
passed true n h e = refl
passed false n h e = absurd (h e)

failed : (b : Bool) (n : ℕ) → (n ≡ 0 → ⊥) → (when b then refuse n 0 else none).number ≡ 0 → b ≡ false
failed true n h e = absurd (h e)
failed false n h e = refl

pub record Bookable (renter : ℤ) (w : Window) (zs : List ℤ) : Type 0 where
  pub known : is_renter renter ≡ true
  pub book : is_book zs ≡ true
  pub good : good_strip w ≡ true
  pub room : all in_use (half renter zs) ≡ false
  pub clear : any (shares_area w) (strips_in (slots_of zs)) ≡ false

pub bookable : (renter : ℤ) (w : Window) (zs : List ℤ) → (booking_refusal renter w zs).number ≡ 0 → Bookable renter w zs
unfolding booking_refusal renter_refusal table_refusal none_free clash
bookable renter w zs e =
    let o = all_done (renter_refusal renter) (table_refusal zs ∷ window_refusal w ∷ none_free renter zs ∷ clash w zs ∷ []) e in
    let p = all_done (table_refusal zs) (window_refusal w ∷ none_free renter zs ∷ clash w zs ∷ []) o.1 in
    let q = all_done (window_refusal w) (none_free renter zs ∷ clash w zs ∷ []) p.1 in
    let r = all_done (none_free renter zs) (clash w zs ∷ []) q.1 in
    let s = all_done (clash w zs) [] r.1 in
    record {
      known = passed (is_renter renter) unknown_renter (omega arith) o.0;
      book = passed (is_book zs) no_book (omega arith) p.0;
      good = eq-eqb _ _ q.0;
      room = failed _ half_full (omega arith) r.0;
      clear = failed _ strip_taken (omega arith) s.0;
    }

pub record Releasable (renter z : ℤ) (zs : List ℤ) : Type 0 where
  pub known : is_renter renter ≡ true
  pub book : is_book zs ≡ true
  pub used : used_at (half renter zs) z ≡ true

pub releasable : (renter z : ℤ) (zs : List ℤ) → (release_refusal renter z zs).number ≡ 0 → Releasable renter z zs
unfolding release_refusal renter_refusal table_refusal slot_refusal
releasable renter z zs e =
    let o = all_done (renter_refusal renter) (table_refusal zs ∷ slot_refusal renter z zs ∷ []) e in
    let p = all_done (table_refusal zs) (slot_refusal renter z zs ∷ []) o.1 in
    let q = all_done (slot_refusal renter z zs) [] p.1 in
    record {
      known = passed (is_renter renter) unknown_renter (omega arith) o.0;
      book = passed (is_book zs) no_book (omega arith) p.0;
      used = passed (used_at (half renter zs) z) slot_not_in_use (omega arith) q.0;
    }
