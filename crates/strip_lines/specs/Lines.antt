-- A strip's line of text.
--   sign z          a minus where z is negative
--   millimetre z    a grid number in millimetres, exactly, and a space
--   listed zs       whole numbers, a space after each
--   lengths zs      the same numbers in millimetres, a space after each
--   strip_text w     a strip: left, bottom, right and top on the grid, an equals sign, and the same in millimetres
--   row_text k w     the line of the strip w in the table's slot k: the renter, his slot, and the strip
use Rattle.std.specs.Prelude.{List, [], ◌∷◌, ◌++◌, ℕ, ◌/◌, ◌%◌, ℤ, pos, negsuc, nat_abs}
use Rattle.grid.specs.Table.{sides}
use Rattle.grid.specs.declared.Window.{Window}
use Rattle.measures.specs.Measures.{millimetres}
use Rattle.text.specs.Pages.{ascii, integer}

abbrev pub sign : ℤ → List ℕ
sign (pos n) = []
sign (negsuc n) = ascii "-"

unfoldable pub millimetre : ℤ → List ℕ
millimetre z = (sign z ++ millimetres (nat_abs z)) ++ ascii " "

unfoldable pub listed : List ℤ → List ℕ
listed [] = []
listed (z ∷ zs) = (integer z ++ ascii " ") ++ listed zs

unfoldable pub lengths : List ℤ → List ℕ
lengths [] = []
lengths (z ∷ zs) = millimetre z ++ lengths zs

unfoldable pub strip_text : Window → List ℕ
strip_text w = ((listed (sides w) ++ ascii "= ") ++ lengths (sides w)) ++ ascii "mm"

unfoldable pub row_text : ℕ → Window → List ℕ
row_text k w = (listed (pos (k / 32) ∷ pos (k % 32) ∷ []) ++ strip_text w) ++ ascii "\n"
