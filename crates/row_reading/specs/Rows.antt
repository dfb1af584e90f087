-- A strip's line in a text.
--   StandsAt t i word   the word stands in the text t from the place i on
--   IsRow t i k w       the line of the strip w in the table's slot k stands there; there is such a slot, and neither 2 nor 3 would refuse the strip
--   RowAt t i r         what `row_reading::row_at` promises: r is the slot and the strip whose line stands there, and where it ends; it is `None`
--                       where there is none
use Rattle.std.specs.Prelude.{◌≡◌, true, List, ℕ, ◌+◌, ◌<◌, Option, None, Some, length, take, drop}
use Rattle.grid.specs.declared.Window.{Window}
use Rattle.slots.specs.Slots.{good_strip}
use Rattle.strip_lines.specs.Lines.{row_text}
use Rattle.row_reading.specs.declared.Row.{Row}

abbrev pub StandsAt : List ℕ → ℕ → List ℕ → Type 0
StandsAt t i word = take (length word) (drop i t) ≡ word

pub record IsRow (t : List ℕ) (i k : ℕ) (w : Window) : Type 0 where
  pub slot : k < 64
  pub good : good_strip w ≡ true
  pub line : StandsAt t i (row_text k w)

abbrev pub RowAt : List ℕ → ℕ → Option Row → Type 0
RowAt t i None = (k : ℕ) (w : Window) → IsRow t i k w → ⊥
RowAt t i (Some r) = IsRow t i r.slot r.strip × (r.end ≡ i + length (row_text r.slot r.strip))
