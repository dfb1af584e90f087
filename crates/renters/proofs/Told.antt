-- What a renter is answered is told by his half and by what he asks, but for 16; who is no renter is answered 19.
use mathlib.Core.Path.{◌≡◌, refl, sym, ap, ◌∙◌}
use mathlib.Core.Bool.{Bool, true, false}
use mathlib.Core.List.{List, []}
use native.Mathlib.Omega.{arith}
use borrow.Author.Tests.{eqb-true, eqb-false}
use lib.Dec.{eqb}
use lib.IntN.{ℤ}
use lib.ListN.{length}
use Rattle.whole.specs.Choice.{when◌then◌else◌}
use Rattle.grid.specs.Calls.{Refused, Lent, written, answered, refused_by}
use Rattle.grid.specs.Refusals.{none, refuse, window_refusal}
use Rattle.grid.specs.declared.Answer.{Answer}
use Rattle.grid.specs.declared.Refusal.{Refusal}
use Rattle.grid.specs.declared.Window.{Window}
use Rattle.racks.specs.Areas.{shares_area}
use Rattle.racks.specs.Members.{any, all}
use Rattle.slots.specs.Slots.{Slot, slots_of, in_use, strips_in, is_book, lowest_free}
use Rattle.strip_book.specs.Books.{unknown_renter, half_full, strip_taken, slot_not_in_use, used_at}
use Rattle.strip_book.specs.Books.{refused_booking, booked_in, BookStrip, release_answer, ReleaseSlot}
use Rattle.strip_book.specs.Renters.{is_renter, half}
use Rattle.strip_book.specs.declared.BookingAnswer.{BookingAnswer}
use Rattle.strip_book.specs.declared.ReleaseAnswer.{ReleaseAnswer}
use Rattle.strip_book.proofs.Refusing.{refuses_renter, refuses_window, refuses_full, refuses_clash, books, refuses_releaser, refuses_slot, releases}
use Rattle.own_strips.specs.OwnStrips.{listed_from, ListStrips}
use Rattle.own_strips.proofs.Refusing.{refuses_renter as refuses-lister, lists}

-- what is shown to a renter of a book: his half; who is no renter is shown nothing
abbrev pub shown : ℤ → List ℤ → List Slot
shown renter zs = when is_renter renter then half renter zs else []

-- a call that refuses by a known refusal
pub lent_refuses : {A M : Type 0} {blank : Refusal → A} {r q : Refusal} {Done : A → M → M → Type 0} {a : A} {before after : M}
    → Lent blank r Done a before after → r ≡ q → (q.number ≡ 0 → ⊥) → Refused blank q a before after
lent_refuses {blank} p e n =
    let r = p.refused (λ z. n (ap (λ (s : Refusal). s.number) (sym e) ∙ z)) in
    record { answer = r.answer ∙ ap blank e; untouched = r.untouched }

-- ---- a release
abbrev pub release_told : ℤ → ℤ → List Slot → ReleaseAnswer
release_told renter z ss = release_answer (when is_renter renter then (when used_at ss z then none else refuse slot_not_in_use 0) else refuse unknown_renter 0)

module _ {renter z : ℤ} {a : ReleaseAnswer} {book after : List ℤ} (b : is_book book ≡ true) (p : ReleaseSlot renter z a book after) where
  pub release_told_lem : a ≡ release_told renter z (shown renter book)
  release_told_lem = go (is_renter renter) refl (used_at (half renter book) z) refl
    where
      go : (k : Bool) → is_renter renter ≡ k → (u : Bool) → used_at (half renter book) z ≡ u → a ≡ release_told renter z (shown renter book)
      go true k true u = rw (k, u) (p.done (releases renter z book k b u)).answer
      go true k false u = rw (k, u) (lent_refuses p (refuses_slot renter z book k b u) (omega arith)).answer
      go false k u v = rw k (lent_refuses p (refuses_releaser renter z book k) (omega arith)).answer

-- ---- a listing
abbrev pub listing_told : ℤ → List ℤ → List Slot → Answer
listing_told renter out ss = when is_renter renter then answered (listed_from 0 ss) (length out) else refused_by (refuse unknown_renter 0)

abbrev pub output_told : ℤ → List ℤ → List Slot → List ℤ
output_told renter out ss = when is_renter renter then written (listed_from 0 ss) out else out

module _ (renter : ℤ) (book : List ℤ) {a : Answer} {out after : List ℤ} (b : is_book book ≡ true) (p : ListStrips renter book a out after) where
  pub listing_told_lem : (a ≡ listing_told renter out (shown renter book)) × (after ≡ output_told renter out (shown renter book))
  listing_told_lem = go (is_renter renter) refl
    where
      go : (k : Bool) → is_renter renter ≡ k → (a ≡ listing_told renter out (shown renter book)) × (after ≡ output_told renter out (shown renter book))
      go true k =
          let g = p.done (lists renter book k b) in
          rw k (g.answer ∙ ap (λ (xs : List ℤ). answered xs (length out)) g.gives, g.output ∙ ap (λ (xs : List ℤ). written xs out) g.gives)
      go false k = let r = lent_refuses p (refuses-lister renter book k) (omega arith) in rw k (r.answer, r.untouched)

-- ---- a booking: what is answered unless it is 16, and that is answered only where it would else be booked
abbrev pub booking_told : ℤ → Window → List Slot → BookingAnswer
booking_told renter w ss =
    let free : BookingAnswer = when all in_use ss then refused_booking (refuse half_full 0) else booked_in (lowest_free ss) in
    let known : BookingAnswer = when eqb (window_refusal w).number 0 then free else refused_booking (window_refusal w) in
    when is_renter renter then known else refused_booking (refuse unknown_renter 0)

pub number_told : {a b : BookingAnswer} → a ≡ b → a.number ≡ b.number
number_told e = ap (λ (x : BookingAnswer). x.number) e

pub data UnlessTaken (b a : BookingAnswer) : Type 0 where
  as_told : a ≡ b → UnlessTaken b a
  taken : a.number ≡ strip_taken → b.number ≡ 0 → UnlessTaken b a

module _ {renter : ℤ} {w : Window} {a : BookingAnswer} {book after : List ℤ} (b : is_book book ≡ true) (p : BookStrip renter w a book after) where
  pub booking_told_lem : UnlessTaken (booking_told renter w (shown renter book)) a
  booking_told_lem = go (is_renter renter) refl (eqb (window_refusal w).number 0) refl (all in_use (half renter book)) refl
      (any (shares_area w) (strips_in (slots_of book))) refl
    where
      go : (k : Bool) → is_renter renter ≡ k → (f : Bool) → eqb (window_refusal w).number 0 ≡ f → (u : Bool) → all in_use (half renter book) ≡ u
          → (s : Bool) → any (shares_area w) (strips_in (slots_of book)) ≡ s → UnlessTaken (booking_told renter w (shown renter book)) a
      go true k true f true u s c =
          as_told (rw (k, f, u) (lent_refuses p (refuses_full renter w book k b (eqb-true _ _ f) u) (omega arith)).answer)
      go true k true f false u true c =
          taken (number_told (lent_refuses p (refuses_clash renter w book k b (eqb-true _ _ f) u c) (omega arith)).answer) (rw (k, f, u))
      go true k true f false u false c = as_told (rw (k, f, u) (p.done (books renter w book k b (eqb-true _ _ f) u c)).answer)
      go true k false f u v s c = let n = eqb-false _ _ f in as_told (rw (k, f) (lent_refuses p (refuses_window renter w book k b n) n).answer)
      go false k f g u v s c = as_told (rw k (lent_refuses p (refuses_renter renter w book k) (omega arith)).answer)
