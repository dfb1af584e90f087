-- What is said of a text that is not a strip book's.
--   fault_text n   its line n is the first at which it goes wrong
use Rattle.std.specs.Prelude.{List, ◌++◌, ℕ}
use Rattle.text.specs.Pages.{ascii, natural}

unfoldable pub fault_text : ℕ → List ℕ
fault_text n = (ascii "line " ++ natural n) ++ ascii " is not that of a strip book"
