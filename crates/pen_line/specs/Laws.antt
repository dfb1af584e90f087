-- What the promise of `take_line` comes to, for a reader who asks whether it leaves anything open.
--   OneStep   what becomes of a line is one thing: two answers from one page are equal, and where the line is taken, so
--             are the pages after it
use Rattle.std.specs.Prelude.{◌≡◌, Result, Ok, List, ℕ}
use Rattle.pen_line.specs.Records.{LineTaken}
use Rattle.pen_line.specs.declared.Fault.{Fault}

-- Only of a line that is taken are the pages equal: a refused one may leave a part of its record behind.
abbrev pub OneStep : Type 0
OneStep =
    (l before after after' : List ℕ) (at : ℕ) (r s : Result ℕ Fault) → LineTaken l before after at r
    → LineTaken l before after' at s → (r ≡ s) × ((end : ℕ) → r ≡ Ok end → after ≡ after')
