-- What the workers behind the finding of a line promise each other. What `read_six` and `row_of` find matters only where a strip's line stands there:
-- whatever they find elsewhere, the comparison shows that the line is none.
--   row_numbers k w      the six numbers of a line: the renter, his slot, and the strip's own
--   NumbersAt t i r     of a line that stands at the place i, `read_six` reads the six numbers
--   RowOf ns r          of six numbers that are a strip's, `row_of` says which; and whatever it says is a slot of the table and a good strip
--   EndOf t i k w r     what `end_of` promises: the line of the strip w in the slot k stands at the place i, and ends at r; or r is `None`, and it
--                       does not
use Rattle.std.specs.Prelude.{◌≡◌, true, List, ◌∷◌, ℕ, ◌+◌, ◌/◌, ◌%◌, ◌<◌, ℤ, pos, Option, None, Some, IfSome, length}
use Rattle.grid.specs.Table.{sides}
use Rattle.grid.specs.declared.Window.{Window}
use Rattle.slots.specs.Slots.{good_strip}
use Rattle.strip_lines.specs.Lines.{row_text}
use Rattle.row_reading.specs.Rows.{StandsAt, IsRow}

abbrev pub row_numbers : ℕ → Window → List ℤ
row_numbers k w = pos (k / 32) ∷ pos (k % 32) ∷ sides w

abbrev pub NumbersAt : List ℕ → ℕ → Option (List ℤ) → Type 0
NumbersAt t i r = (k : ℕ) (w : Window) → IsRow t i k w → r ≡ Some (row_numbers k w)

pub record RowOf (ns : List ℤ) (r : Option (ℕ × Window)) : Type 0 where
  pub finds : (k : ℕ) (w : Window) → k < 64 → good_strip w ≡ true → ns ≡ row_numbers k w → r ≡ Some (k, w)
  pub sound : IfSome r (λ row. (row.0 < 64) × (good_strip row.1 ≡ true))

abbrev pub EndOf : List ℕ → ℕ → ℕ → Window → Option ℕ → Type 0
EndOf t i k w None = StandsAt t i (row_text k w) → ⊥
EndOf t i k w (Some end) = StandsAt t i (row_text k w) × (end ≡ i + length (row_text k w))
