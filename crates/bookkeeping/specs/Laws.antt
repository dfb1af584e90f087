-- Laws of the strip book over any run of calls, proved in proofs/Theorems.antt.
--   AsAPlainList     whatever is called from the empty book on, by whomever, it answers as the paper, and its entries are those of the paper
--   EachRunOnPaper   the other way round: each run on paper is a run of the book, whose entries are then those of the paper
--   FromAnyBook      the first from any book on, and the paper of its entries: so what a free slot holds behind its mark does not matter
--   PaperInOrder     on paper the entries of a renter are always in the order of their numbers
--   LeastMissing     so the number that a strip gets there is the least that no entry of the renter has
--   StaysABook       it is a book after any run of calls from the empty book
--   NeverNoBook      23 is never answered
--   NoTwoShareArea   no point lies strictly inside the strips of two slots in use, whichever renters have them
use Rattle.std.specs.Prelude.{◌≡◌, true, false, List, ℕ, ◌<◌, ℤ, pos}
use Rattle.rings.specs.Lists.{All}
use Rattle.slots.specs.Slots.{slot_at, in_use, is_book}
use Rattle.strip_book.specs.Books.{no_book}
use Rattle.bookkeeping.specs.Areas.{InBoth}
use Rattle.bookkeeping.specs.PlainList.{RisingFrom, first_missing, has, Paper, blank_paper, leaf}
use Rattle.bookkeeping.specs.Runs.{Event, number_answered, RunOfCalls, InBook, OnPaper, FromEmpty, paper_of}

-- ---- the book and the paper

abbrev pub AsAPlainList : Type 0
AsAPlainList = (events : List Event) (book : List ℤ) → FromEmpty events book → RunOfCalls OnPaper blank_paper events (paper_of book)

abbrev pub EachRunOnPaper : Type 0
EachRunOnPaper = (events : List Event) (p : Paper) → RunOfCalls OnPaper blank_paper events p
    → (book : List ℤ) × FromEmpty events book × (paper_of book ≡ p)

abbrev pub FromAnyBook : Type 0
FromAnyBook = (before after : List ℤ) (events : List Event) → is_book before ≡ true → RunOfCalls InBook before events after
    → RunOfCalls OnPaper (paper_of before) events (paper_of after)

-- ---- the paper

abbrev pub PaperInOrder : Type 0
PaperInOrder = (events : List Event) (p : Paper) → RunOfCalls OnPaper blank_paper events p → (renter : ℤ) → RisingFrom 0 (leaf renter p)

abbrev pub LeastMissing : Type 0
LeastMissing = (events : List Event) (p : Paper) → RunOfCalls OnPaper blank_paper events p → (renter : ℤ) → let es = leaf renter p in
    (has (pos (first_missing 0 es)) es ≡ false) × ((n : ℕ) → n < first_missing 0 es → has (pos n) es ≡ true)

-- ---- the book

abbrev pub StaysABook : Type 0
StaysABook = (events : List Event) (book : List ℤ) → FromEmpty events book → is_book book ≡ true

abbrev pub NeverNoBook : Type 0
NeverNoBook = (events : List Event) (book : List ℤ) → FromEmpty events book → All (λ (e : Event). number_answered e ≡ no_book → ⊥) events

abbrev pub NoTwoShareArea : Type 0
NoTwoShareArea = (events : List Event) (book : List ℤ) → FromEmpty events book
    → (j k : ℕ) → (j ≡ k → ⊥) → in_use (slot_at book j) ≡ true → in_use (slot_at book k) ≡ true
    → InBoth (slot_at book j).strip (slot_at book k).strip → ⊥
