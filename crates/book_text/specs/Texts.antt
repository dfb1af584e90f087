-- The text of a book.
--   head_text, end_text   its first and its last line; a text that was cut short lacks the last
--   book_text zs         the text of the book zs: the first line, a line for each strip in slot order, the last line
--   with_strip zs k w    the table zs with the strip w in its slot k
--   Sound zs            zs is a book, and each of its slots that is not in use holds five zeros, as calls on the empty book leave them
use Rattle.std.specs.Prelude.{◌≡◌, true, false, List, ◌++◌, ℕ, ◌*◌, ℤ}
use Rattle.std.proofs.lemmas.List.Edits.{sets}
use Rattle.grid.specs.declared.Window.{Window}
use Rattle.slots.specs.Slots.{slots_of, slot_at, slot_of, free_slot, slot_numbers, in_use, is_book}
use Rattle.text.specs.Pages.{ascii}
use Rattle.book_rows.specs.Rows.{rows_text}

abbrev pub head_text : List ℕ
head_text = ascii "strip book 1: renter, slot, left bottom right top in 1/32 mm = in mm\n"

abbrev pub end_text : List ℕ
end_text = ascii "end\n"

unfoldable pub book_text : List ℤ → List ℕ
book_text zs = (head_text ++ rows_text 0 (slots_of zs)) ++ end_text

abbrev pub with_strip : List ℤ → ℕ → Window → List ℤ
with_strip zs k w = sets zs (5 * k) (slot_numbers (slot_of 1 w))

pub record Sound (zs : List ℤ) : Type 0 where
  pub book : is_book zs ≡ true
  pub free : (k : ℕ) → in_use (slot_at zs k) ≡ false → slot_at zs k ≡ free_slot
