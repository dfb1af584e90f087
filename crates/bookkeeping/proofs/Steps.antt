-- A call on a book leaves a book: it changes one slot, which a booking fills with a strip that shares area with none, and a release frees.
use mathlib.Core.Path.{◌≡◌, refl, sym, ap, subst, ◌∙◌}
use mathlib.Core.Bool.{Bool, true, false, and-eq-true_iff}
use mathlib.Core.List.{List}
use Prim.Native.Nat.{ℕ, ◌+◌, ◌<◌}
use native.Mathlib.Omega.{arith}
use borrow.Author.Tests.{eqb-true, eqb-false}
use lib.Dec.{eqb}
use lib.IntN.{ℤ, nat_abs}
use lib.ListN.{length, get_or, set}
use lib.Seq.{length-sets, get_or-set_same, get_or-set_other}
use Rattle.whole.proofs.Comparisons.{ff_tt}
use Rattle.grid.specs.declared.Window.{Window}
use Rattle.racks.specs.Areas.{shares_area}
use Rattle.slots.specs.Slots.{Slot, slots_of, in_use, good_mark, good_strip, slots_good, is_book, lowest_free, slot_of, free_slot}
use Rattle.slots.proofs.Lowest.{free_among}
use Rattle.slots.proofs.Places.{slots_count, slots_put}
use Rattle.strip_book.specs.Books.{Booked, Released}
use Rattle.strip_book.specs.Renters.{is_renter, first_slot, half}
use Rattle.strip_book.specs.declared.BookingAnswer.{BookingAnswer}
use Rattle.strip_book.specs.declared.ReleaseAnswer.{ReleaseAnswer}
use Rattle.strip_book.proofs.Halves.{at_most_one, half_long}
use Rattle.strip_book.proofs.Refusing.{book_long, used_there}
use Rattle.bookkeeping.specs.Runs.{Event, booking, release, listing, InBook}
use Rattle.bookkeeping.proofs.Answers.{lent_by, Bookable, bookable, Releasable, releasable}
use Rattle.bookkeeping.proofs.Areas.{shares_turned}
use Rattle.bookkeeping.proofs.Good.{Good, good_slots, slots_good_lem, no_strip}

-- ---- a book, by its slots
pub book_good : (zs : List ℤ) → is_book zs ≡ true → Good (slots_of zs)
unfolding is_book
book_good zs e = good_slots (slots_of zs) ((and-eq-true_iff (eqb (length zs) 320) (slots_good (slots_of zs))).0 e).1

pub book_slots : (zs : List ℤ) → is_book zs ≡ true → length (slots_of zs) ≡ 64
book_slots zs e = omega (arith, slots_count zs, book_long zs e)

-- a table as long as a book, whose slots are good
good_book : (zs ys : List ℤ) → is_book zs ≡ true → length ys ≡ length zs → Good (slots_of ys) → is_book ys ≡ true
unfolding is_book
good_book zs ys e l g = rw (l, slots_good_lem (slots_of ys) g, book_long zs e)

-- ---- one slot is changed
data Changed (ss : List Slot) (k : ℕ) (s : Slot) (j : ℕ) : Type 0 where
  here : j ≡ k → get_or (set ss k s) j free_slot ≡ s → Changed ss k s j
  elsewhere : (j ≡ k → ⊥) → get_or (set ss k s) j free_slot ≡ get_or ss j free_slot → Changed ss k s j

module _ (ss : List Slot) (k : ℕ) (among : k < length ss) (s : Slot) where
  changed : (j : ℕ) → Changed ss k s j
  changed j = go (eqb j k) refl
    where
      go : (b : Bool) → eqb j k ≡ b → Changed ss k s j
      go true e = let q = eqb-true j k e in here q (ap (λ (i : ℕ). get_or (set ss k s) i free_slot) q ∙ get_or-set_same ss k s free_slot among)
      go false e = let q = eqb-false j k e in elsewhere q (get_or-set_other ss k j s free_slot q)

  change_good : Good ss → good_mark s ≡ true → (in_use s ≡ true → good_strip s.strip ≡ true)
      → (in_use s ≡ true → (j : ℕ) → in_use (get_or ss j free_slot) ≡ true → shares_area s.strip (get_or ss j free_slot).strip ≡ false)
      → Good (set ss k s)
  change_good g m t h = record {
    marks = λ j. mark_at j (changed j);
    strips = λ j. strip_at j (changed j);
    areas = λ i j l. area_at i j l (changed i) (changed j);
  }
    where
      mark_at : (j : ℕ) → Changed ss k s j → good_mark (get_or (set ss k s) j free_slot) ≡ true
      mark_at j (here q c) = rw c m
      mark_at j (elsewhere q c) = rw c (g.marks j)

      strip_at : (j : ℕ) → Changed ss k s j → in_use (get_or (set ss k s) j free_slot) ≡ true → good_strip (get_or (set ss k s) j free_slot).strip ≡ true
      strip_at j (here q c) u = rw c (t (rw c at u))
      strip_at j (elsewhere q c) u = rw c (g.strips j (rw c at u))

      area_at : (i j : ℕ) → i < j → Changed ss k s i → Changed ss k s j
          → in_use (get_or (set ss k s) i free_slot) ≡ true → in_use (get_or (set ss k s) j free_slot) ≡ true
          → shares_area (get_or (set ss k s) i free_slot).strip (get_or (set ss k s) j free_slot).strip ≡ false
      area_at i j l (here p c) (here q d) u v = absurd (omega arith)
      area_at i j l (here p c) (elsewhere q d) u v = rw (c, d) (h (rw c at u) j (rw d at v))
      area_at i j l (elsewhere p c) (here q d) u v = rw (c, d) (shares_turned s.strip (get_or ss i free_slot).strip (h (rw d at v) i (rw c at u)))
      area_at i j l (elsewhere p c) (elsewhere q d) u v = rw (c, d) (g.areas i j l (rw c at u) (rw d at v))

-- ---- the slots after a call: one of the renter's 32 is changed, which is one of the 64
pub slots_booked : {renter : ℤ} {w : Window} {a : BookingAnswer} {before after : List ℤ} → Booked renter w a before after
    → slots_of after ≡ set (slots_of before) (first_slot renter + lowest_free (half renter before)) (slot_of 1 w)
slots_booked {renter} {w} {a} {before} h = ap slots_of h.book ∙ slots_put (slot_of 1 w) before (first_slot renter + lowest_free (half renter before))

pub slots_released : {renter z : ℤ} {a : ReleaseAnswer} {before after : List ℤ} → Released renter z a before after
    → slots_of after ≡ set (slots_of before) (first_slot renter + nat_abs z) free_slot
slots_released {renter} {z} {a} {before} h = ap slots_of h.book ∙ slots_put free_slot before (first_slot renter + nat_abs z)

pub among_all : (renter : ℤ) (zs : List ℤ) {k : ℕ} → is_renter renter ≡ true → is_book zs ≡ true → k < 32 → first_slot renter + k < length (slots_of zs)
among_all renter zs known b h = omega (arith, at_most_one renter known, book_slots zs b)

pub room_among : {renter : ℤ} {w : Window} {zs : List ℤ} → Bookable renter w zs → lowest_free (half renter zs) < 32
room_among {renter} {w} {zs} b = omega (arith, free_among (half renter zs) b.room, half_long renter b.known zs (book_long zs b.book))

pub used_among_own : {renter z : ℤ} {zs : List ℤ} → Releasable renter z zs → nat_abs z < 32
used_among_own {renter} {z} {zs} r = (used_there (half renter zs) z (half_long renter r.known zs (book_long zs r.book)) r.used).1

-- ---- a book stays a book
booked_book : {renter : ℤ} {w : Window} {a : BookingAnswer} {before after : List ℤ}
    → Bookable renter w before → Booked renter w a before after → is_book after ≡ true
booked_book {renter} {w} {a} {before} {after} b h =
    let ss = slots_of before in
    let n = first_slot renter + lowest_free (half renter before) in
    let among = among_all renter before b.known b.book (room_among b) in
    let good = change_good ss n among (slot_of 1 w) (book_good before b.book) refl (λ u. b.good) (λ u. no_strip (shares_area w) ss b.clear) in
    good_book before after b.book
    (ap length h.book ∙ simp length-sets)
    (subst Good (sym (slots_booked h)) good)

released_book : {renter z : ℤ} {a : ReleaseAnswer} {before after : List ℤ}
    → Releasable renter z before → Released renter z a before after → is_book after ≡ true
released_book {renter} {z} {a} {before} {after} r h =
    let ss = slots_of before in
    let n = first_slot renter + nat_abs z in
    let among = among_all renter before r.known r.book (used_among_own r) in
    let good = change_good ss n among free_slot (book_good before r.book) refl (λ u. absurd (ff_tt u)) (λ u. absurd (ff_tt u)) in
    good_book before after r.book
    (ap length h.book ∙ simp length-sets)
    (subst Good (sym (slots_released h)) good)

pub call_stays : (e : Event) (before after : List ℤ) → InBook before e after → is_book before ≡ true → is_book after ≡ true
call_stays (booking renter w a) before after p b =
    lent_by p (λ z d. booked_book (bookable renter w before z) d) (λ n r. ap is_book r.untouched ∙ b)
call_stays (release renter z a) before after p b =
    lent_by p (λ e d. released_book (releasable renter z before e) d) (λ n r. ap is_book r.untouched ∙ b)
call_stays (listing renter out a out') before after p b = ap is_book p.1 ∙ b
