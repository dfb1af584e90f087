-- What the bookkeeper is answered where he asks which strips are in the book.
--   or_none rows            the rows, or the line `none` where there is no row
--   strips_text renter zs   the rows of the renter's strips, or the refusal where there is no such renter
--   show_text zs            the rows of all strips
use Rattle.std.specs.Prelude.{List, [], ◌∷◌, ℕ, eqb, ℤ}
use Rattle.whole.specs.Choice.{when◌then◌else◌}
use Rattle.text.specs.Pages.{ascii}
use Rattle.slots.specs.Slots.{slots_of}
use Rattle.strip_book.specs.Books.{renter_refusal}
use Rattle.strip_book.specs.Renters.{first_slot, half}
use Rattle.book_rows.specs.Rows.{rows_text}
use Rattle.answers.specs.Answers.{refusal_text}

unfoldable pub or_none : List ℕ → List ℕ
or_none [] = ascii "none\n"
or_none (b ∷ bs) = b ∷ bs

unfoldable pub strips_text : ℤ → List ℤ → List ℕ
strips_text renter zs =
    let r = renter_refusal renter in
    when eqb r.number 0 then or_none (rows_text (first_slot renter) (half renter zs)) else refusal_text r.number r.place

unfoldable pub show_text : List ℤ → List ℕ
show_text zs = or_none (rows_text 0 (slots_of zs))
