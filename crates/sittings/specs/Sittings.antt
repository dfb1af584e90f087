-- The lines of a sitting.
--   line_of l n   the line of which n bytes are kept in l; a line that is longer than 400,000 bytes counts as words that are no order
use Rattle.std.specs.Prelude.{List, ℕ, eqb, take}
use Rattle.whole.specs.Choice.{when◌then◌else◌}
use Rattle.text.specs.Pages.{ascii}

unfoldable pub line_of : List ℕ → ℕ → List ℕ
line_of l n = when eqb n 400001 then ascii "too long" else take n l
