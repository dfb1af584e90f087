-- A strip book in its file. What the system does with files is no part of it.
--   IsNewName name long   a new file's name: that of the book's file, so many bytes, and ".new"
--   Understands text h r zs   what was read of the book's file is understood as r: no file as the empty book, and else the text as `ReadsAs` says; zs is
--                         the table then
use Rattle.std.specs.Prelude.{◌≡◌, ⊤, List, ℕ, ◌+◌, ℤ, Option, None, Some, Result, Ok, length, take, drop}
use Rattle.text.specs.Pages.{ascii}
use Rattle.bookkeeping.specs.Runs.{empty_book}
use Rattle.book_text.specs.Readings.{ReadsAs}

pub record IsNewName (name : List ℕ) (long : ℕ) : Type 0 where
  pub size : length name ≡ long + 4
  pub end : drop long name ≡ ascii ".new"

pub data Understands (text : List ℕ) : Option ℕ → Result ⊤ ℕ → List ℤ → Type 0 where
  no_file : Understands text None (Ok tt) empty_book
  a_text : {count : ℕ} {r : Result ⊤ ℕ} {zs : List ℤ} → ReadsAs (take count text) r zs → Understands text (Some count) r zs
