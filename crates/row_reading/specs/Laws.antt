-- A law of a strip's line, proved in proofs/Unique.antt.
--   OneRow   a line that is not the text's first is the line of one strip in one slot: no two strips and no two slots have the same
use Rattle.std.specs.Prelude.{◌≡◌, List, ℕ, ◌≤◌}
use Rattle.grid.specs.declared.Window.{Window}
use Rattle.row_reading.specs.Rows.{IsRow}

abbrev pub OneRow : Type 0
OneRow = (t : List ℕ) (i j k : ℕ) (v w : Window) → 1 ≤ i → IsRow t i j v → IsRow t i k w → (j ≡ k) × (v ≡ w)
