-- What becomes of a text.
--   Draws t page r   what `draw` promises: the text t is that of a book, and its sheet is the page up to where r says; or r is an error, the first line
--                    at which t is not a book's
use Rattle.std.specs.Prelude.{◌≡◌, List, ℕ, ◌≤◌, ℤ, Result, Ok, Err, length, take}
use Rattle.book_text.specs.Readings.{ReadsAs}
use Rattle.sheet_art.specs.SheetArt.{sheet}

pub data Draws (t page : List ℕ) : Result ℕ ℕ → Type 0 where
  drawn : {zs : List ℤ} {end : ℕ} → ReadsAs t (Ok tt) zs → end ≤ length page → take end page ≡ sheet zs → Draws t page (Ok end)
  faulty : {zs : List ℤ} {line : ℕ} → ReadsAs t (Err line) zs → Draws t page (Err line)
