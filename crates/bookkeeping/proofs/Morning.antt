-- The morning's answers are those of the paper, which are computed.
use mathlib.Core.Path.{◌≡◌, refl, ap, subst, ◌∙◌}
use mathlib.Core.List.{List, ◌∷◌, ◌++◌}
use Prim.Native.Nat.{◌≤◌}
use borrow.Author.Tests.{le-leb}
use lib.IntN.{ℤ}
use lib.ListN.{length, drop}
use Rattle.grid.specs.Calls.{written, answered_by, gives_all, answered, Call}
use Rattle.grid.specs.Refusals.{none, first, off_table, no_area, window_refusal, room_refusal}
use Rattle.grid.specs.Table.{on_table, first_off}
use Rattle.grid.specs.declared.Answer.{Answer}
use Rattle.grid.specs.declared.Window.{Window}
use Rattle.racks.specs.Areas.{shares_area}
use Rattle.racks.specs.Members.{any}
use Rattle.strip_book.specs.Books.{renter_refusal}
use Rattle.strip_book.specs.declared.BookingAnswer.{BookingAnswer}
use Rattle.strip_book.specs.declared.ReleaseAnswer.{ReleaseAnswer}
use Rattle.bookkeeping.specs.Morning.{Morning}
use Rattle.bookkeeping.specs.PlainList.{Paper, leaf, on_leaf, entries_listed, first_missing, entered, struck_out}
use Rattle.bookkeeping.specs.PlainList.{refusal_to_book, answer_booking, after_booking, refusal_to_release, answer_release, after_release}
use Rattle.bookkeeping.specs.Runs.{Event, booking, release, listing, OnPaper, RunOfCalls, a_call}
use Rattle.bookkeeping.proofs.Theorems.{as_a_plain_list}

-- ---- on paper a call is told by the paper before it: the first call of a run, and the run without it
first_booking : {renter : ℤ} {w : Window} {a : BookingAnswer} {before after : Paper} {events : List Event}
    → RunOfCalls OnPaper before (booking renter w a ∷ events) after
    → (a ≡ answer_booking renter w before) × RunOfCalls OnPaper (after_booking renter w before) events after
first_booking {after} {events} (a_call c r) = (c.0, subst (λ p. RunOfCalls OnPaper p events after) c.1 r)

first_release : {renter z : ℤ} {a : ReleaseAnswer} {before after : Paper} {events : List Event}
    → RunOfCalls OnPaper before (release renter z a ∷ events) after
    → (a ≡ answer_release renter z before) × RunOfCalls OnPaper (after_release renter z before) events after
first_release {after} {events} (a_call c r) = (c.0, subst (λ p. RunOfCalls OnPaper p events after) c.1 r)

first_listing : {renter : ℤ} {out : List ℤ} {a : Answer} {out' : List ℤ} {before after : Paper} {events : List Event}
    → RunOfCalls OnPaper before (listing renter out a out' ∷ events) after
    → Call (renter_refusal renter) (λ xs. xs ≡ entries_listed (leaf renter before)) a out out'
first_listing (a_call c r) = c.0

-- a listing that nothing refuses and that has room
all_listed : {xs out : List ℤ} {a : Answer} {out' : List ℤ} → Call none (λ l. l ≡ xs) a out out' → length xs ≤ length out
    → (a ≡ gives_all xs) × (out' ≡ xs ++ drop (length xs) out)
unfolding answered_by room_refusal written
all_listed {xs} {out} c h =
    let d = c.done refl in (
      d.answer ∙ ap (λ (l : List ℤ). answered l (length out)) d.gives ∙ simp (le-leb _ _ h),
      d.output ∙ ap (λ (l : List ℤ). written l out) d.gives ∙ simp (le-leb _ _ h),
    )

pub morning : Morning
unfolding answer_booking after_booking answer_release after_release refusal_to_book refusal_to_release renter_refusal leaf on_leaf entries_listed
    first_missing entered struck_out any shares_area first window_refusal off_table no_area first_off on_table
morning a b c d e out f out' book room r =
    let p = first_booking (as_a_plain_list _ book r) in
    let q = first_booking p.1 in
    let s = first_booking q.1 in
    let t = first_release s.1 in
    let u = first_booking t.1 in
    let v = all_listed (first_listing u.1) room in
    record { entered = p.0; touching = q.0; sharing = s.0; released = t.0; again = u.0; listed = v.0; rows = v.1 }
