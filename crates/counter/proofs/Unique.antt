-- A line is one order, and each order has one answer: those that are told by the table are, and the clerk's are by his own laws. What is refused
-- leaves the table as it was, since the book's calls do.
use mathlib.Core.Path.{◌≡◌, refl, sym, ap, ◌∙◌, subst}
use mathlib.Core.List.{List}
use Prim.Native.Nat.{ℕ, zero, suc}
use native.Mathlib.Omega.{arith}
use borrow.Author.Tests.{eq-eqb}
use lib.Dec.{eqb}
use lib.IntN.{ℤ}
use lib.ListN.{take}
use Rattle.answers.specs.Answers.{Answers, Exactly}
use Rattle.answers.specs.declared.Reply.{Reply}
use Rattle.std.specs.Prelude.{Result}
use Rattle.whole.specs.Choice.{when◌then◌else◌}
use Rattle.intake.specs.declared.WindowMm.{WindowMm}
use Rattle.bookkeeping.specs.Runs as Runs
use Rattle.bookkeeping.proofs.OneCall.{refused_keeps}
use Rattle.clerk.specs.Commands.{BooksAs}
use Rattle.clerk.proofs.Unique.{one_booking_answer, one_release_answer}
use Rattle.pen_line.specs.Lines.{spoken}
use Rattle.orders.specs.declared.Fault.{Fault}
use Rattle.orders.specs.declared.Order.{Order}
use Rattle.orders.proofs.Unique.{one_order}
use Rattle.counter.specs.Laws.{OneService, UnchangedKeeps}
use Rattle.counter.specs.Serving.{Does, blank, book, release, strips, show, wrong, changing, looking}
use Rattle.counter.specs.declared.Outcome.{Outcome}
use Rattle.counter.specs.declared.Service.{Service}

abbrev Same : Service → Service → List ℕ → List ℕ → List ℤ → List ℤ → Type 0
Same a b page page' after after' =
    (take a.end page ≡ take b.end page') × (a.outcome ≡ b.outcome) × (after ≡ after')

-- what comes of an order, by the number of its reply
abbrev outcome_by : Outcome → ℕ → Outcome
outcome_by done n = when eqb n 0 then done else Outcome.Refused

-- of an order that changes the table
changed_alike : (a b : Reply) (page page' : List ℕ) {after after' : List ℤ}
    → (a.number ≡ b.number) × (take a.end page ≡ take b.end page') × (after ≡ after')
    → Same (changing a) (changing b) page page' after after'
changed_alike a b page page' (en, et, ez) = (et, ap (outcome_by Outcome.Changed) en, ez)

-- of one that only looks at it
looked_alike : {text : List ℕ} {number : ℕ} {a b : Reply} {page page' : List ℕ} (zs : List ℤ) → Answers (Exactly text number) page a
    → Answers (Exactly text number) page' b → Same (looking a) (looking b) page page' zs zs
looked_alike zs p q = (p.says.0 ∙ sym q.says.0, ap (outcome_by Outcome.Unchanged) (p.says.1 ∙ sym q.says.1), refl)

one_doing : (o : Result Order Fault) {before after after' : List ℤ} {page page' : List ℕ} {a b : Service} → Does o before after page a → Does o before after' page' b
    → Same a b page page' after after'
one_doing _ blank blank = (refl, refl, refl)
one_doing _ (book {page = s} {r = a} p) (book {page = t} {r = b} q) = changed_alike a b s t (one_booking_answer _ _ _ _ _ _ _ _ _ p.says q.says)
one_doing _ (release {page = s} {r = a} p) (release {page = t} {r = b} q) = changed_alike a b s t (one_release_answer _ _ _ _ _ _ _ _ _ p.says q.says)
one_doing _ (strips {zs = zs} p) (strips q) = looked_alike zs p q
one_doing _ (show {zs = zs} p) (show q) = looked_alike zs p q
one_doing _ (wrong f p) (wrong g q) = (p ∙ sym q, refl, refl)

pub one_service : OneService
one_service l before after after' page page' a b p q =
    let e = one_order (spoken l) p.order q.order p.read q.read in
    one_doing q.order (subst (λ (o : Result Order Fault). Does o before after page a) e p.done) q.done

-- ---- a line that changes nothing

not_done : (n : ℕ) → (outcome_by Outcome.Changed n ≡ Outcome.Changed → ⊥) → n ≡ 0 → ⊥
not_done n e z = e (rw (eq-eqb n 0 z) refl)

books_nothing : {renter : ℤ} {strip : WindowMm} {before after : List ℤ} {text : List ℕ} {number : ℕ} → BooksAs renter strip before after text number
    → (number ≡ 0 → ⊥) → after ≡ before
books_nothing {renter} {strip} {before} {after} {text} {number} a no_zero = go a.taken.number refl
  where
    go : (n : ℕ) → a.taken.number ≡ n → after ≡ before
    go zero e =
        let b = a.done e in
        (refused_keeps (Runs.booking renter a.taken.window b.answer) before after b.booked (λ z. no_zero (b.says.1 ∙ z))).0
    go (suc n) e = (a.refused (λ (z : a.taken.number ≡ 0). omega (arith, e, z))).0

does_nothing : {o : Result Order Fault} {before after : List ℤ} {page : List ℕ} {r : Service} → Does o before after page r → (r.outcome ≡ Outcome.Changed → ⊥)
    → after ≡ before
does_nothing blank e = refl
does_nothing (book {r = r} a) e = books_nothing a.says (not_done r.number e)
does_nothing (release {renter} {slot} {before} {after} {r = r} a) e =
    (refused_keeps (Runs.release renter slot a.says.answer) before after a.says.released (λ z. not_done r.number e (a.says.says.1 ∙ z))).0
does_nothing (strips a) e = refl
does_nothing (show a) e = refl
does_nothing (wrong h t) e = refl

pub unchanged_keeps : UnchangedKeeps
unchanged_keeps l before after page r s e = does_nothing s.done e
