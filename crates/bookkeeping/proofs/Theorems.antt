-- Over any run of calls: by induction on it, since a call on a book leaves a book, answers as on paper, and never answers 23.
use mathlib.Core.Path.{◌≡◌, refl, sym, ap, subst, ◌∙◌}
use mathlib.Core.Bool.{Bool, true, false}
use mathlib.Core.List.{List, []}
use Prim.Native.Nat.{ℕ, ◌<◌}
use native.Mathlib.Nat.{zero-add}
use native.Mathlib.Omega.{arith}
use borrow.Author.Tests.{eqb-true, ltb-true, ltb-false}
use lib.Dec.{ltb}
use lib.IntN.{ℤ, pos}
use Rattle.grid.specs.Table.{WindowOnTable}
use Rattle.grid.proofs.Refusals.{window_on_table}
use Rattle.racks.specs.Areas.{shares_area}
use Rattle.racks.specs.Members.{all}
use Rattle.rings.specs.Lists.{All, ∅, ◌◂◌}
use Rattle.slots.specs.Slots.{Slot, slots_of, slot_at, in_use, strips_in, no_two_share, is_book, lowest_free}
use Rattle.slots.proofs.Lowest.{lowest_free_lem, used_below}
use Rattle.strip_book.specs.Books.{no_book}
use Rattle.strip_book.specs.Renters.{is_renter, half}
use Rattle.bookkeeping.specs.Laws.{AsAPlainList, EachRunOnPaper, FromAnyBook, PaperInOrder, LeastMissing}
use Rattle.bookkeeping.specs.Laws.{StaysABook, NeverNoBook, NoTwoShareArea}
use Rattle.bookkeeping.specs.PlainList.{RisingFrom, first_missing, has, Paper, blank_paper, leaf}
use Rattle.bookkeeping.specs.Runs.{Event, number_answered, InBook, OnPaper, RunOfCalls, no_call, a_call, empty_book, entries_from, paper_of}
use Rattle.bookkeeping.proofs.Areas.{shares_turned, shares_a_point}
use Rattle.bookkeeping.proofs.Entries.{entries_rise, first_missing_lem, has_slot}
use Rattle.bookkeeping.proofs.Faults.{call_never}
use Rattle.bookkeeping.proofs.Paper.{call_on_paper, call_in_book}
use Rattle.bookkeeping.proofs.TwoLeaves.{leaf_is, no_leaf}
use Rattle.bookkeeping.proofs.Steps.{book_good, call_stays}

-- ---- where they begin
empty_is_a_book : is_book empty_book ≡ true
unfolding is_book empty_book slots_of all strips_in no_two_share
empty_is_a_book = refl

empty_is_blank : paper_of empty_book ≡ blank_paper
unfolding empty_book slots_of entries_from
empty_is_blank = refl

-- ---- from any book
run_stays : {before after : List ℤ} {events : List Event} → RunOfCalls InBook before events after → is_book before ≡ true → is_book after ≡ true
run_stays no_call b = b
run_stays (a_call {before} {between} {e = e} p r) b = run_stays r (call_stays e before between p b)

run_on_paper : {before after : List ℤ} {events : List Event} → RunOfCalls InBook before events after → is_book before ≡ true
    → RunOfCalls OnPaper (paper_of before) events (paper_of after)
run_on_paper no_call b = no_call
run_on_paper (a_call {before} {between} {e = e} p r) b =
    a_call (call_on_paper e before between p b) (run_on_paper r (call_stays e before between p b))

run_in_book : {p p' : Paper} {events : List Event} → RunOfCalls OnPaper p events p' → (before : List ℤ) → is_book before ≡ true → paper_of before ≡ p
    → (after : List ℤ) × RunOfCalls InBook before events after × (paper_of after ≡ p')
run_in_book no_call before b q = (before, no_call, q)
run_in_book (a_call {between} {e = e} c r) before b q =
    let d = call_in_book e before between (subst (λ p. OnPaper p e between) (sym q) c) b in
    let f = run_in_book r d.0 (call_stays e before d.0 d.1 b) d.2 in
    (f.0, a_call d.1 f.1, f.2)

run_never : {before after : List ℤ} {events : List Event} → RunOfCalls InBook before events after → is_book before ≡ true
    → All (λ (e : Event). number_answered e ≡ no_book → ⊥) events
run_never no_call b = ∅
run_never (a_call {before} {between} {e = e} p r) b = call_never e before between p b ◂ run_never r (call_stays e before between p b)

pub from_any_book : FromAnyBook
from_any_book before after events b r = run_on_paper r b

-- ---- from the empty book
pub as_a_plain_list : AsAPlainList
as_a_plain_list events book r =
    subst (λ p. RunOfCalls OnPaper p events (paper_of book)) empty_is_blank (from_any_book empty_book book events empty_is_a_book r)

pub each_run_on_paper : EachRunOnPaper
each_run_on_paper events p r = run_in_book r empty_book empty_is_a_book empty_is_blank

pub stays_a_book : StaysABook
stays_a_book events book r = run_stays r empty_is_a_book

pub never_no_book : NeverNoBook
never_no_book events book r = run_never r empty_is_a_book

-- ---- a leaf, which has the entries of some slots: those of the renter's half, or of none where there is no such renter
slots_of_leaf : (events : List Event) (p : Paper) → RunOfCalls OnPaper blank_paper events p → (renter : ℤ)
    → (ss : List Slot) × (entries_from 0 ss ≡ leaf renter p)
unfolding entries_from
slots_of_leaf events p r renter = go (is_renter renter) refl
  where
    go : (t : Bool) → is_renter renter ≡ t → (ss : List Slot) × (entries_from 0 ss ≡ leaf renter p)
    go true known =
        let c = each_run_on_paper events p r in
        (half renter c.0, sym (leaf_is renter c.0 known) ∙ ap (leaf renter) c.2)
    go false known = ([], sym (no_leaf renter p known))

least_missing_entry : (ss : List Slot) → let es = entries_from 0 ss in
    (has (pos (first_missing 0 es)) es ≡ false) × ((n : ℕ) → n < first_missing 0 es → has (pos n) es ≡ true)
least_missing_entry ss =
    let es = entries_from 0 ss in
    let lowest = first_missing_lem 0 ss in (
      ap (λ (n : ℕ). has (pos n) es) lowest ∙ has_slot 0 (lowest_free ss) ss ∙ lowest_free_lem ss,
      λ n l. rw zero-add at (has_slot 0 n ss) ∙ used_below ss n (omega (arith, lowest)),
    )

pub paper_in_order : PaperInOrder
paper_in_order events p r renter =
    let s = slots_of_leaf events p r renter in
    subst (RisingFrom 0) s.1 (entries_rise 0 s.0)

pub least_missing : LeastMissing
least_missing events p r renter =
    let s = slots_of_leaf events p r renter in
    subst (λ es. (has (pos (first_missing 0 es)) es ≡ false) × ((n : ℕ) → n < first_missing 0 es → has (pos n) es ≡ true)) s.1
    (least_missing_entry s.0)

-- ---- the strips of a book, which are on the table
module _ (zs : List ℤ) (b : is_book zs ≡ true) where
  on_table_lem : (k : ℕ) → in_use (slot_at zs k) ≡ true → WindowOnTable (slot_at zs k).strip
  on_table_lem k u = window_on_table (slot_at zs k).strip (eqb-true _ _ ((book_good zs b).strips k u))

  none_shared : (j k : ℕ) → (j ≡ k → ⊥) → in_use (slot_at zs j) ≡ true → in_use (slot_at zs k) ≡ true
      → shares_area (slot_at zs j).strip (slot_at zs k).strip ≡ false
  none_shared j k n u v = go (ltb j k) refl
    where
      go : (t : Bool) → ltb j k ≡ t → shares_area (slot_at zs j).strip (slot_at zs k).strip ≡ false
      go true l = (book_good zs b).areas j k (ltb-true j k l) u v
      go false l =
          let m : k < j = omega (arith, ltb-false j k l) in
          shares_turned (slot_at zs k).strip (slot_at zs j).strip ((book_good zs b).areas k j m v u)

pub no_two_share_area : NoTwoShareArea
no_two_share_area events book r j k n u v =
    let b = stays_a_book events book r in
    (shares_a_point (slot_at book j).strip (slot_at book k).strip (on_table_lem book b j u) (on_table_lem book b k v)).no (none_shared book b j k n u v)
