-- A call on a book is the same call on paper: it is refused there by the same refusal, and where it is not, the same number is given or freed, or
-- the same strips are listed. The other way round, a call on paper is one on the book, since there each call has a result.
use mathlib.Core.Path.{◌≡◌, refl, sym, ap, ◌∙◌, subst}
use mathlib.Core.Bool.{Bool, true, false}
use mathlib.Core.List.{List, [], ◌∷◌}
use Prim.Native.Nat.{◌+◌}
use native.Mathlib.Nat.{zero-add}
use native.Mathlib.Omega.{arith}
use borrow.Author.Tests.{eq-eqb, ne_eqb, eqb-true, eqb-false}
use lib.Dec.{eqb}
use lib.IntN.{ℤ, pos, negsuc, nat_abs}
use lib.ListN.{length, set}
use Rattle.whole.specs.Choice.{when◌then◌else◌}
use Rattle.whole.proofs.Comparisons.{ff_tt}
use Rattle.grid.specs.Calls.{Refused, Lent, refused_by, Call}
use Rattle.grid.specs.Refusals.{none, refuse, first}
use Rattle.grid.specs.declared.Answer.{Answer}
use Rattle.grid.specs.declared.Refusal.{Refusal}
use Rattle.grid.specs.declared.Window.{Window}
use Rattle.grid.proofs.Calls.{lent_refused, lent_done}
use Rattle.racks.specs.Members.{all}
use Rattle.slots.specs.Slots.{Slot, in_use, is_book, lowest_free, slot_of, free_slot}
use Rattle.slots.proofs.Lowest.{lowest_free_lem, free_among}
use Rattle.strip_book.specs.Books.{unknown_renter, renter_refusal, table_refusal, none_free, clash, used_at, slot_refusal}
use Rattle.strip_book.specs.Books.{booking_refusal, BookStrip, booked_in, refused_booking, Booked, release_refusal, ReleaseSlot, release_answer, Released}
use Rattle.strip_book.specs.Renters.{is_renter, half}
use Rattle.strip_book.specs.declared.BookingAnswer.{BookingAnswer}
use Rattle.strip_book.specs.declared.ReleaseAnswer.{ReleaseAnswer}
use Rattle.strip_book.proofs.Halves.{half_long}
use Rattle.strip_book.proofs.Refusing.{book_long}
use Rattle.own_strips.specs.OwnStrips.{listed_from, listing_refusal}
use Rattle.bookkeeping.specs.PlainList.{Entry, Paper, leaf, on_leaf, first_missing, entered, has, struck_out, entries_listed}
use Rattle.bookkeeping.specs.PlainList.{refusal_to_book, answer_booking, after_booking, refusal_to_release, answer_release, after_release}
use Rattle.bookkeeping.specs.Runs.{Event, booking, release, listing, InBook, OnPaper, entries_from, entries_of, paper_of}
use Rattle.bookkeeping.proofs.Answers.{lent_by, passed, bookable, releasable}
use Rattle.bookkeeping.proofs.Entries.{entries_full, first_missing_lem, enters, has_slot, has_negative, struck_absent, leaves, lists}
use Rattle.bookkeeping.proofs.TwoLeaves.{paper_strips, leaf_is, same_leaf, on_no_leaf, paper_put}
use Rattle.bookkeeping.proofs.Steps.{room_among, used_among_own}

-- ---- a booking: its refusal, and what is answered and entered on paper
same_refusal : (renter : ℤ) (w : Window) (zs : List ℤ) → is_book zs ≡ true → booking_refusal renter w zs ≡ refusal_to_book renter w (paper_of zs)
unfolding booking_refusal renter_refusal table_refusal none_free clash refusal_to_book first
same_refusal renter w zs b = go (is_renter renter) refl
  where
    go : (t : Bool) → is_renter renter ≡ t → booking_refusal renter w zs ≡ refusal_to_book renter w (paper_of zs)
    go true known =
        let hs = half renter zs in
        let filled : eqb (length (entries_of renter zs)) 32 ≡ all in_use hs = rw (half_long renter known zs (book_long zs b)) at (entries_full 0 hs) in
        rw (known, b, leaf_is renter zs known, filled, paper_strips zs b)
    go false known = rw known

module _ (renter : ℤ) (w : Window) (p : Paper) where
  paper_done : (refusal_to_book renter w p).number ≡ 0 → let own = leaf renter p in
      (answer_booking renter w p ≡ booked_in (first_missing 0 own)) × (after_booking renter w p ≡ on_leaf renter (entered (first_missing 0 own) w own) p)
  unfolding answer_booking after_booking
  paper_done h = (simp (eq-eqb _ _ h), simp (eq-eqb _ _ h))

  paper_refused : ((refusal_to_book renter w p).number ≡ 0 → ⊥)
      → (answer_booking renter w p ≡ refused_booking (refusal_to_book renter w p)) × (after_booking renter w p ≡ p)
  unfolding answer_booking after_booking
  paper_refused h = (simp (ne_eqb _ _ h), simp (ne_eqb _ _ h))

booking_on_paper : (renter : ℤ) (w : Window) (a : BookingAnswer) (before after : List ℤ) → is_book before ≡ true → BookStrip renter w a before after
    → OnPaper (paper_of before) (booking renter w a) (paper_of after)
booking_on_paper renter w a before after b c = lent_by c done refused
  where
    hs : List Slot
    hs = half renter before

    p : Paper
    p = paper_of before

    same : booking_refusal renter w before ≡ refusal_to_book renter w p
    same = same_refusal renter w before b

    done : (booking_refusal renter w before).number ≡ 0 → Booked renter w a before after → OnPaper p (booking renter w a) (paper_of after)
    done z d =
        let k = bookable renter w before z in
        let q = paper_done renter w p (subst (λ (r : Refusal). r.number ≡ 0) same z) in
        let own = leaf_is renter before k.known in
        let lowest : first_missing 0 (leaf renter p) ≡ 0 + lowest_free hs = ap (first_missing 0) own ∙ first_missing_lem 0 hs in
        let put = enters 0 (lowest_free hs) w hs (free_among hs k.room) (lowest_free_lem hs) in
        let same_entries = sym put ∙ (λ i. entered (sym lowest i) w (sym own i)) in
        let same_leaves = paper_put renter (lowest_free hs) (slot_of 1 w) before k.known (room_among k) in (
          d.answer ∙ ap booked_in (sym (lowest ∙ zero-add (lowest_free hs))) ∙ sym q.0,
          ap paper_of d.book ∙ same_leaves ∙ ap (λ (es : List Entry). on_leaf renter es p) same_entries ∙ sym q.1,
        )

    refused : ((booking_refusal renter w before).number ≡ 0 → ⊥) → Refused refused_booking (booking_refusal renter w before) a before after
        → OnPaper p (booking renter w a) (paper_of after)
    refused n r =
        let q = paper_refused renter w p (subst (λ (r : Refusal). r.number ≡ 0 → ⊥) same n) in
        (r.answer ∙ ap refused_booking same ∙ sym q.0, ap paper_of r.untouched ∙ sym q.1)

-- ---- a release
used_has : (ss : List Slot) (z : ℤ) → used_at ss z ≡ has z (entries_from 0 ss)
used_has ss (pos k) = sym (rw zero-add at (has_slot 0 k ss))
used_has ss (negsuc k) = sym (has_negative k (entries_from 0 ss))

same_release : (renter z : ℤ) (zs : List ℤ) → is_book zs ≡ true → release_refusal renter z zs ≡ refusal_to_release renter z (paper_of zs)
unfolding release_refusal renter_refusal table_refusal slot_refusal refusal_to_release first
same_release renter z zs b = go (is_renter renter) refl
  where
    go : (t : Bool) → is_renter renter ≡ t → release_refusal renter z zs ≡ refusal_to_release renter z (paper_of zs)
    go true known = rw (known, b, leaf_is renter zs known, used_has (half renter zs) z)
    go false known = rw known

freed : (z : ℤ) (ss : List Slot) → used_at ss z ≡ true → struck_out z (entries_from 0 ss) ≡ entries_from 0 (set ss (nat_abs z) free_slot)
freed (pos k) ss u = rw zero-add at (leaves 0 k ss)
freed (negsuc k) ss u = absurd (ff_tt u)

-- what refuses nothing is none
none_refuses : (rs : List Refusal) → (first rs).number ≡ 0 → first rs ≡ none
unfolding first
none_refuses [] z = refl
none_refuses (r ∷ rs) z = go (eqb r.number 0) refl z (none_refuses rs)
  where
    go : (t : Bool) → eqb r.number 0 ≡ t → (when t then first rs else r).number ≡ 0 → ((first rs).number ≡ 0 → first rs ≡ none)
        → (when t then first rs else r) ≡ none
    go true e z h = h z
    go false e z h = absurd (eqb-false r.number 0 e z)

-- on paper nothing is struck out where a release is refused
nothing_struck : (renter z : ℤ) (p : Paper) → ((refusal_to_release renter z p).number ≡ 0 → ⊥) → after_release renter z p ≡ p
unfolding refusal_to_release renter_refusal after_release first
nothing_struck renter z p n = go (is_renter renter) (has z (leaf renter p)) refl refl
  where
    go : (t u : Bool) → is_renter renter ≡ t → has z (leaf renter p) ≡ u → on_leaf renter (struck_out z (leaf renter p)) p ≡ p
    go true true known h = absurd (n (rw (known, h)))
    go true false known h = ap (λ (es : List Entry). on_leaf renter es p) (struck_absent z (leaf renter p) h) ∙ same_leaf renter p
    go false u known h = on_no_leaf renter (struck_out z (leaf renter p)) p known

release_on_paper : (renter z : ℤ) (a : ReleaseAnswer) (before after : List ℤ) → is_book before ≡ true → ReleaseSlot renter z a before after
    → OnPaper (paper_of before) (release renter z a) (paper_of after)
unfolding release_refusal answer_release after_release
release_on_paper renter z a before after b c = lent_by c done refused
  where
    hs : List Slot
    hs = half renter before

    p : Paper
    p = paper_of before

    same : release_refusal renter z before ≡ refusal_to_release renter z p
    same = same_release renter z before b

    done : (release_refusal renter z before).number ≡ 0 → Released renter z a before after → OnPaper p (release renter z a) (paper_of after)
    done e d =
        let k = releasable renter z before e in
        let same_entries = sym (freed z hs k.used) ∙ ap (struck_out z) (sym (leaf_is renter before k.known)) in
        let same_leaves = paper_put renter (nat_abs z) free_slot before k.known (used_among_own k) in (
          d.answer ∙ ap release_answer (sym (none_refuses _ e) ∙ same),
          ap paper_of d.book ∙ same_leaves ∙ ap (λ (es : List Entry). on_leaf renter es p) same_entries,
        )

    refused : ((release_refusal renter z before).number ≡ 0 → ⊥) → Refused release_answer (release_refusal renter z before) a before after
        → OnPaper p (release renter z a) (paper_of after)
    refused n r = (
      r.answer ∙ ap release_answer same,
      ap paper_of r.untouched ∙ sym (nothing_struck renter z p (subst (λ (r : Refusal). r.number ≡ 0 → ⊥) same n)),
    )

-- ---- a listing, which is refused by the same and lists the same
module _ (renter : ℤ) (zs : List ℤ) (b : is_book zs ≡ true) where
  same_listing : listing_refusal renter zs ≡ renter_refusal renter
  unfolding listing_refusal renter_refusal table_refusal first
  same_listing = rw b (go (is_renter renter))
    where
      go : (t : Bool) → first ((when t then none else refuse unknown_renter 0) ∷ none ∷ []) ≡ (when t then none else refuse unknown_renter 0)
      go true = refl
      go false = refl

  same_list : (renter_refusal renter).number ≡ 0 → listed_from 0 (half renter zs) ≡ entries_listed (leaf renter (paper_of zs))
  unfolding renter_refusal
  same_list z =
      let known = passed (is_renter renter) unknown_renter (omega arith) z in
      sym (ap entries_listed (leaf_is renter zs known) ∙ lists 0 (half renter zs))

  list_same : (listing_refusal renter zs).number ≡ 0 → entries_listed (leaf renter (paper_of zs)) ≡ listed_from 0 (half renter zs)
  list_same z = sym (same_list (ap (λ (r : Refusal). r.number) (sym same_listing) ∙ z))

call_like : {r q : Refusal} {xs ys : List ℤ} {a : Answer} {before after : List ℤ} → r ≡ q → (q.number ≡ 0 → xs ≡ ys)
    → Call r (λ l. l ≡ xs) a before after → Call q (λ l. l ≡ ys) a before after
call_like {r} {q} {xs} {ys} {a} {before} {after} e h c = record {
  refused = λ n. subst (λ (r : Refusal). Refused refused_by r a before after) e (c.refused (subst (λ (r : Refusal). r.number ≡ 0 → ⊥) (sym e) n));
  done = λ z.
      let d = c.done (subst (λ (r : Refusal). r.number ≡ 0) (sym e) z) in
      record { numbers = d.numbers; gives = d.gives ∙ h z; answer = d.answer; output = d.output };
}

-- ---- each call
pub call_on_paper : (e : Event) (before after : List ℤ) → InBook before e after → is_book before ≡ true
    → OnPaper (paper_of before) e (paper_of after)
call_on_paper (booking renter w a) before after p b = booking_on_paper renter w a before after b p
call_on_paper (release renter z a) before after p b = release_on_paper renter z a before after b p
call_on_paper (listing renter out a out') before after p b =
    (call_like (same_listing renter before b) (same_list renter before b) p.0, ap paper_of p.1)

-- ---- the other way round: a call has a result, which is the one on paper
has_result : {A M : Type 0} (blank : Refusal → A) (r : Refusal) (Done : A → M → M → Type 0) {a : A} {before after : M} → Done a before after
    → (answer : A) × (afterwards : M) × Lent blank r Done answer before afterwards
has_result {A} {M} blank r Done {a} {before} {after} d = go (eqb r.number 0) refl
  where
    go : (b : Bool) → eqb r.number 0 ≡ b → (answer : A) × (afterwards : M) × Lent blank r Done answer before afterwards
    go true e = (a, after, lent_done (eqb-true r.number 0 e) d)
    go false e = (blank r, before, lent_refused refl (eqb-false r.number 0 e))

pub call_in_book : (e : Event) (before : List ℤ) (p : Paper) → OnPaper (paper_of before) e p → is_book before ≡ true
    → (after : List ℤ) × InBook before e after × (paper_of after ≡ p)
call_in_book (booking renter w a) before p c b =
    let r = has_result refused_booking (booking_refusal renter w before) (Booked renter w) (record { answer = refl; book = refl }) in
    let q = booking_on_paper renter w r.0 before r.1 b r.2 in
    (r.1, subst (λ x. BookStrip renter w x before r.1) (q.0 ∙ sym c.0) r.2, q.1 ∙ sym c.1)
call_in_book (release renter z a) before p c b =
    let r = has_result release_answer (release_refusal renter z before) (Released renter z) (record { answer = refl; book = refl }) in
    let q = release_on_paper renter z r.0 before r.1 b r.2 in
    (r.1, subst (λ x. ReleaseSlot renter z x before r.1) (q.0 ∙ sym c.0) r.2, q.1 ∙ sym c.1)
call_in_book (listing renter out a out') before p c b =
    (before, (call_like (sym (same_listing renter before b)) (list_same renter before b) c.0, refl), sym c.1)
