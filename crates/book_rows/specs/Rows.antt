-- The lines of slots.
--   rows_text k ss   the lines of the slots ss, of which the first is the table's slot k: one for each that is in use, in slot order
use Rattle.std.specs.Prelude.{List, [], ◌∷◌, ◌++◌, ℕ, suc}
use Rattle.whole.specs.Choice.{when◌then◌else◌}
use Rattle.slots.specs.Slots.{Slot, in_use}
use Rattle.strip_lines.specs.Lines.{row_text}

unfoldable pub rows_text : ℕ → List Slot → List ℕ
rows_text k [] = []
rows_text k (s ∷ ss) = when in_use s then row_text k s.strip ++ rows_text (suc k) ss else rows_text (suc k) ss
