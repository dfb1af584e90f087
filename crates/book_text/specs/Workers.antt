-- What a worker behind the reading of a text promises.
--   EndsAs t at n r   at the place `at` of the text t, where its line n starts, stands the last line of a book, and r is Ok where nothing follows
--                     it, and else the error is the line after n; or another thing stands there, and the error is the line n
use Rattle.std.specs.Prelude.{◌≡◌, ⊤, List, ℕ, ◌+◌, Result, Ok, Err, drop}
use Rattle.row_reading.specs.Rows.{StandsAt}
use Rattle.book_text.specs.Texts.{end_text}

pub data EndsAs (t : List ℕ) (at n : ℕ) : Result ⊤ ℕ → Type 0 where
  ends : drop at t ≡ end_text → EndsAs t at n (Ok tt)
  goes_on : StandsAt t at end_text → (drop at t ≡ end_text → ⊥) → EndsAs t at n (Err (n + 1))
  another : (StandsAt t at end_text → ⊥) → EndsAs t at n (Err n)
