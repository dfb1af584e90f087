-- What a text is read as.
--   Follows t i next zs k w   at the place i of the text t stands the line of the strip w in the slot k; the slot is `next` or a later one, and with
--                         the strip the table zs is a book
--   Lines t n i next zs   the lines of t before its line n, which starts at the place i, are a book's first line and lines of strips, each of which
--                         follows those before it; zs is the table with these strips, and `next` the slot after the last of them
--   ReadsAs t r zs        what `book_text::read_book` promises: r is Ok, and then t is these lines and the last line, and zs the table with the
--                         strips; or r is an error, the line at which t goes on in another way, which is the line behind the last one where
--                         something follows it
use Rattle.std.specs.Prelude.{◌≡◌, ⊤, true, List, ℕ, ◌+◌, ◌≤◌, ℤ, Result, Ok, Err, length, drop}
use Rattle.grid.specs.declared.Window.{Window}
use Rattle.slots.specs.Slots.{is_book}
use Rattle.bookkeeping.specs.Runs.{empty_book}
use Rattle.strip_lines.specs.Lines.{row_text}
use Rattle.row_reading.specs.Rows.{StandsAt, IsRow}
use Rattle.book_text.specs.Texts.{head_text, end_text, with_strip}

pub record Follows (t : List ℕ) (i next : ℕ) (zs : List ℤ) (k : ℕ) (w : Window) : Type 0 where
  pub line : IsRow t i k w
  pub later : next ≤ k
  pub book : is_book (with_strip zs k w) ≡ true

pub data Lines (t : List ℕ) : ℕ → ℕ → ℕ → List ℤ → Type 0 where
  first : StandsAt t 0 head_text → Lines t 2 (length head_text) 0 empty_book
  one_more : {n i next k : ℕ} {zs : List ℤ} {w : Window} → Lines t n i next zs → Follows t i next zs k w
      → Lines t (n + 1) (i + length (row_text k w)) (k + 1) (with_strip zs k w)

-- Of the table nothing is said where the text is no book's: it is not used then.
pub data ReadsAs (t : List ℕ) : Result ⊤ ℕ → List ℤ → Type 0 where
  book : {n i next : ℕ} {zs : List ℤ} → Lines t n i next zs → drop i t ≡ end_text → ReadsAs t (Ok tt) zs
  no_first : {zs : List ℤ} → (StandsAt t 0 head_text → ⊥) → ReadsAs t (Err 1) zs
  no_line : {n i next : ℕ} {ys zs : List ℤ} → Lines t n i next ys → ((k : ℕ) (w : Window) → Follows t i next ys k w → ⊥)
      → (StandsAt t i end_text → ⊥) → ReadsAs t (Err n) zs
  behind : {n i next : ℕ} {ys zs : List ℤ} → Lines t n i next ys → StandsAt t i end_text → (drop i t ≡ end_text → ⊥) → ReadsAs t (Err (n + 1)) zs
