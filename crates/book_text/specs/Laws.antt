-- Laws of a book's text, proved in proofs/Theorems.antt.
--   OneReading   a text is read as one thing: two results are equal, and so are the tables, where it is a book's
--   ReadsBack    the text of a sound book is read as that book
--   WritesBack   a text that is read as a book is the text of that book, and the book is sound
--   OneText      so two sound books that have one text are one book
--   SoundEmpty   the empty book is sound
--   StaysSound   each call on a sound book leaves a sound book: so it is with every book that calls on the empty book leave
use Rattle.std.specs.Prelude.{◌≡◌, ⊤, List, ℕ, ℤ, Result, Ok}
use Rattle.bookkeeping.specs.Runs.{Event, InBook, empty_book}
use Rattle.book_text.specs.Texts.{book_text, Sound}
use Rattle.book_text.specs.Readings.{ReadsAs}

abbrev pub OneReading : Type 0
OneReading = (t : List ℕ) (a b : Result ⊤ ℕ) (ys zs : List ℤ) → ReadsAs t a ys → ReadsAs t b zs → (a ≡ b) × (a ≡ Ok tt → ys ≡ zs)

abbrev pub ReadsBack : Type 0
ReadsBack = (zs : List ℤ) → Sound zs → ReadsAs (book_text zs) (Ok tt) zs

abbrev pub WritesBack : Type 0
WritesBack = (t : List ℕ) (zs : List ℤ) → ReadsAs t (Ok tt) zs → Sound zs × (t ≡ book_text zs)

abbrev pub OneText : Type 0
OneText = (ys zs : List ℤ) → Sound ys → Sound zs → book_text ys ≡ book_text zs → ys ≡ zs

abbrev pub SoundEmpty : Type 0
SoundEmpty = Sound empty_book

abbrev pub StaysSound : Type 0
StaysSound = (before after : List ℤ) (e : Event) → Sound before → InBook before e after → Sound after
