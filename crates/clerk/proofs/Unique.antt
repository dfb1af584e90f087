-- The calls below have one answer each, and the text is told by it.
use mathlib.Core.Path.{◌≡◌, refl, sym, ap, subst, ◌∙◌}
use mathlib.Core.Bool.{Bool, true, false}
use mathlib.Core.List.{List}
use Prim.Native.Nat.{ℕ}
use borrow.Author.Tests.{eqb-true, eqb-false}
use lib.Dec.{eqb}
use lib.IntN.{ℤ}
use Rattle.grid.specs.declared.Window.{Window}
use Rattle.intake.specs.declared.WindowAnswer.{WindowAnswer}
use Rattle.intake.proofs.Theorems.{one_window_answer}
use Rattle.strip_book.specs.declared.BookingAnswer.{BookingAnswer}
use Rattle.strip_book.specs.declared.ReleaseAnswer.{ReleaseAnswer}
use Rattle.strip_book.proofs.Unique.{one_booking, one_release}
use Rattle.answers.specs.Answers.{refusal_text}
use Rattle.clerk.specs.Commands.{booking_text, release_text, BooksOnGrid}
use Rattle.clerk.specs.Laws.{OneBookingAnswer, OneReleaseAnswer}

-- of a strip that is on the grid
on_grid : (renter : ℤ) (w : Window) (before after after' : List ℤ) (text text' : List ℕ) (number number' : ℕ)
    → BooksOnGrid renter w before after text number → BooksOnGrid renter w before after' text' number'
    → (number ≡ number') × (text ≡ text') × (after ≡ after')
on_grid renter w before after after' text text' number number' p q =
    let e = one_booking renter w p.answer q.answer before after after' p.booked q.booked in (
      p.says.1 ∙ ap (λ (b : BookingAnswer). b.number) e.0 ∙ sym q.says.1,
      p.says.0 ∙ ap (booking_text renter w) e.0 ∙ sym q.says.0,
      e.1,
    )

pub one_booking_answer : OneBookingAnswer
one_booking_answer renter mm before after after' text text' number number' p q = go (eqb p.taken.number 0) refl
  where
    e : p.taken ≡ q.taken
    e = one_window_answer mm p.taken q.taken p.grid q.grid

    same_number : p.taken.number ≡ q.taken.number
    same_number = ap (λ (a : WindowAnswer). a.number) e

    go : (t : Bool) → eqb p.taken.number 0 ≡ t → (number ≡ number') × (text ≡ text') × (after ≡ after')
    go true t =
        let z = eqb-true p.taken.number 0 t in
        let d = subst (λ (w : Window). BooksOnGrid renter w before after text number) (ap (λ (a : WindowAnswer). a.window) e) (p.done z) in
        on_grid renter q.taken.window before after after' text text' number number' d (q.done (sym same_number ∙ z))
    go false t =
        let n = eqb-false p.taken.number 0 t in
        let r = p.refused n in
        let s = q.refused (λ z. n (same_number ∙ z)) in (
          r.1.1 ∙ same_number ∙ sym s.1.1,
          r.1.0 ∙ ap (λ (a : WindowAnswer). refusal_text a.number a.place) e ∙ sym s.1.0,
          r.0 ∙ sym s.0,
        )

pub one_release_answer : OneReleaseAnswer
one_release_answer renter z before after after' text text' number number' p q =
    let e = one_release renter z p.answer q.answer before after after' p.released q.released in (
      p.says.1 ∙ ap (λ (b : ReleaseAnswer). b.number) e.0 ∙ sym q.says.1,
      p.says.0 ∙ ap (release_text renter z before) e.0 ∙ sym q.says.0,
      e.1,
    )
