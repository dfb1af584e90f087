-- A call that is done changes one slot, or writes rows: by induction on the slots, the row of each in use stands behind those of the slots before it.
use mathlib.Core.Path.{◌≡◌, refl, sym, ap, ◌∙◌}
use mathlib.Core.Bool.{Bool, true, false}
use mathlib.Core.List.{List, [], ◌∷◌, ◌++◌}
use mathlib.Core.Logic.{⊎_elim}
use Prim.Native.Nat.{ℕ, zero, suc, ◌+◌, ◌*◌}
use native.Mathlib.Nat.{add-zero, zero-add}
use native.Mathlib.Omega.{arith}
use lib.IntN.{ℤ, pos, nat_abs}
use lib.ListN.{length, take, drop, get_or, set}
use lib.Seq.{get_or-set_same, get_or-set_other, length-sets, take_all, drop_at}
use Rattle.whole.specs.Choice.{when◌then◌else◌}
use Rattle.whole.proofs.Comparisons.{ff_tt}
use Rattle.grid.specs.Calls.{Given, gives_all}
use Rattle.grid.specs.Table.{sides}
use Rattle.grid.specs.declared.Answer.{Answer}
use Rattle.grid.specs.declared.Window.{Window}
use Rattle.grid.proofs.Calls.{given_cases}
use Rattle.grid.proofs.Refusals.{all_done}
use Rattle.slots.specs.Slots.{Slot, slots_of, in_use, strips_in, is_book, lowest_free, free_slot}
use Rattle.slots.proofs.Lowest.{lowest_free_lem, used_below}
use Rattle.strip_book.specs.Books.{unknown_renter, no_book, renter_refusal, table_refusal, Booked, Released}
use Rattle.strip_book.specs.Renters.{is_renter, first_slot, half}
use Rattle.strip_book.specs.declared.BookingAnswer.{BookingAnswer}
use Rattle.strip_book.specs.declared.ReleaseAnswer.{ReleaseAnswer}
use Rattle.strip_book.proofs.Halves.{half_at, half_long}
use Rattle.strip_book.proofs.Refusing.{book_long}
use Rattle.own_strips.specs.OwnStrips.{listed_from, listing_refusal, ListStrips}
use Rattle.own_strips.proofs.Listed.{listed_length}
use Rattle.bookkeeping.specs.Done.{TakesLowest, LowestFreeSlot, SlotFreed, FreesTheSlot, Lists, ListsEachStrip}
use Rattle.bookkeeping.specs.Runs.{booking, release, listing}
use Rattle.bookkeeping.proofs.Answers.{room_for, number_refused, passed, Bookable, bookable, Releasable, releasable}
use Rattle.bookkeeping.proofs.OneCall.{slot_in_use}
use Rattle.bookkeeping.proofs.Steps.{slots_booked, slots_released, among_all, room_among}

-- ---- a done booking takes the lowest free slot
takes_lowest : {renter : ℤ} {w : Window} {a : BookingAnswer} {before after : List ℤ} → Bookable renter w before → Booked renter w a before after
    → TakesLowest renter w a before after
takes_lowest {renter} {w} {a} {before} {after} b d =
    let own = half renter before in
    let k = lowest_free own in
    let l = room_among b in
    record {
      slot = k;
      answer = d.answer;
      among = l;
      free = sym (ap in_use (half_at renter k before l)) ∙ lowest_free_lem own;
      below = λ j h. sym (ap in_use (half_at renter j before (omega (arith, h, l)))) ∙ used_below own j h;
      holds = rw (slots_booked d) (get_or-set_same (slots_of before) (first_slot renter + k) _ free_slot (among_all renter before b.known b.book l));
      others = λ j n. rw (slots_booked d) (get_or-set_other (slots_of before) (first_slot renter + k) j _ free_slot n);
      long = ap length d.book ∙ simp length-sets;
    }

pub lowest_free_slot : LowestFreeSlot
lowest_free_slot renter w a before after p z =
    let done = sym (number_refused (booking renter w a) before after p) ∙ z in
    takes_lowest (bookable renter w before done) (p.done done)

-- ---- a done release frees the slot of its number
slot_freed : {renter z : ℤ} {a : ReleaseAnswer} {before after : List ℤ} → Releasable renter z before → Released renter z a before after
    → SlotFreed renter z before after
slot_freed {renter} {z} {a} {before} {after} r d =
    let ss = slots_of before in
    let h = slot_in_use renter z before r.known r.book r.used in
    let slots = slots_released d ∙ ap (λ (y : ℤ). set ss (first_slot renter + nat_abs y) free_slot) h.number in
    record {
      was = h;
      holds = rw slots (get_or-set_same ss (first_slot renter + h.slot) free_slot free_slot (among_all renter before r.known r.book h.among));
      others = λ j n. rw slots (get_or-set_other ss (first_slot renter + h.slot) j free_slot free_slot n);
      long = ap length d.book ∙ simp length-sets;
    }

pub frees_the_slot : FreesTheSlot
frees_the_slot renter z a before after p e =
    let done = sym (number_refused (release renter z a) before after p) ∙ e in
    slot_freed (releasable renter z before done) (p.done done)

-- ---- a done listing writes the row of each slot in use
row_of : (k j : ℕ) (ss : List Slot) (rest : List ℤ) → in_use (get_or ss j free_slot) ≡ true
    → take 5 (drop (5 * length (strips_in (take j ss))) (listed_from k ss ++ rest)) ≡ pos (k + j) ∷ sides (get_or ss j free_slot).strip
unfolding listed_from strips_in
row_of k j [] rest u = absurd (ff_tt u)
row_of k zero (s ∷ ss) rest u = let here : in_use s ≡ true = u in rw (here, add-zero k)
row_of k (suc j) (s ∷ ss) rest u = go (in_use s) (row_of (suc k) j ss rest u)
  where
    below : ℕ
    below = length (strips_in (take j ss))

    five : 5 * suc below ≡ suc (suc (suc (suc (suc (5 * below)))))
    five = omega arith

    next : suc k + j ≡ k + suc j
    next = omega arith

    row : ℕ → List ℤ
    row n = pos n ∷ sides (get_or ss j free_slot).strip

    go : (b : Bool) → take 5 (drop (5 * below) (listed_from (suc k) ss ++ rest)) ≡ row (suc k + j)
        → take 5 (drop (5 * length (when b then s.strip ∷ strips_in (take j ss) else strips_in (take j ss)))
        ((when b then pos k ∷ sides s.strip ++ listed_from (suc k) ss else listed_from (suc k) ss) ++ rest)) ≡ row (k + suc j)
    go true e =
        ap (λ (n : ℕ). take 5 (drop n ((pos k ∷ sides s.strip ++ listed_from (suc k) ss) ++ rest))) five ∙ e ∙ ap row next
    go false e = e ∙ ap row next

-- a listing that is done is that of a renter, on a book
record Listable (renter : ℤ) (zs : List ℤ) : Type 0 where
  done : (listing_refusal renter zs).number ≡ 0
  known : is_renter renter ≡ true
  book : is_book zs ≡ true

listable : (renter : ℤ) (zs : List ℤ) (a : Answer) (before after : List ℤ) → ListStrips renter zs a before after → a.number ≡ 0
    → Listable renter zs
unfolding listing_refusal renter_refusal table_refusal
listable renter zs a before after p z =
    let e = sym (number_refused (listing renter before a after) zs zs (p, refl)) ∙ z in
    let o = all_done (listing_refusal renter zs) (room_for renter zs before ∷ []) e in
    let q = all_done (renter_refusal renter) (table_refusal zs ∷ []) o.0 in
    let t = all_done (table_refusal zs) [] q.1 in
    record {
      done = o.0;
      known = passed (is_renter renter) unknown_renter (omega arith) q.0;
      book = passed (is_book zs) no_book (omega arith) t.0;
    }

pub lists_each_strip : ListsEachStrip
lists_each_strip renter zs a before after p z =
    ⊎_elim (λ e. absurd (omega (arith, z, ap (λ (x : Answer). x.number) e))) (λ q. all_listed q.0 q.1) (given_cases g)
  where
    h : Listable renter zs
    h = listable renter zs a before after p z

    own : List Slot
    own = half renter zs

    g : Given (λ xs. xs ≡ listed_from 0 own) a before after
    g = p.done h.done

    all_listed : a ≡ gives_all g.numbers → after ≡ g.numbers ++ drop (length g.numbers) before → Lists renter zs a before after
    all_listed e o =
        let xs = g.numbers in
        let rest = drop (length xs) before in
        let count : a.count ≡ length xs = ap (λ (x : Answer). x.count) e in
        let long = half_long renter h.known zs (book_long zs h.book) in
        record {
          row = λ k l u.
              let there = half_at renter k zs l in
              ap (λ (ys : List ℤ). take 5 (drop (5 * length (strips_in (take k own))) ys)) (o ∙ ap (λ (ys : List ℤ). ys ++ rest) g.gives)
              ∙ row_of 0 k own rest (ap in_use there ∙ u)
              ∙ ap (λ (n : ℕ). pos n ∷ sides (get_or own k free_slot).strip) (zero-add k)
              ∙ ap (λ (s : Slot). pos k ∷ sides s.strip) there;
          counted =
              count ∙ ap length g.gives ∙ listed_length 0 own
              ∙ ap (λ (ss : List Slot). 5 * length (strips_in ss)) (sym (take_all 32 own (omega (arith, long))));
          rest =
              ap (λ (n : ℕ). drop n after) count ∙ ap (drop (length xs)) o ∙ drop_at xs rest (length xs) refl
              ∙ ap (λ (n : ℕ). drop n before) (sym count);
        }
