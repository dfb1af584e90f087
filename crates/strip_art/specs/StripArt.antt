-- A strip as a sheet shows it, in the table's own grid numbers, which grow to the right and upward. Its colours are those of the group it stands in.
--   lesser m n          the lesser of two numbers
--   number_size w        how high the number of the strip w is, in half grid steps: four fifths of the strip's height or half its width, whichever is
--                       less, so that two digits stay inside the strip, and 25 mm at the most
--   strip_name r k       the words that a browser shows where one points at the strip: renter r, slot k
--   number_place w       the start of a text in the middle of the strip w. Its unit is half a grid step, in which the middle is a whole number; it is
--                       turned over, since a text grows downward, and lowered by a third of its height, so that its digits are in the middle
--   strip_number w k     the number k in the middle of the strip w
--   strip_art r k w      the strip w, which renter r has in his slot k: its name, the way along its sides, and its number
use Rattle.std.specs.Prelude.{List, ◌++◌, ℕ, ◌*◌, ◌/◌, ltb}
use Rattle.whole.specs.Choice.{when◌then◌else◌}
use Rattle.grid.specs.declared.Window.{Window}
use Rattle.text.specs.Pages.{ascii}
use Rattle.marks.specs.Marks.{labelled, point_mark}
use Rattle.view.specs.Views.{width, height}
use Rattle.layers.specs.Layers.{round_path}

unfoldable pub lesser : ℕ → ℕ → ℕ
lesser m n = when ltb n m then n else m

unfoldable pub number_size : Window → ℕ
number_size w = lesser (lesser (8 * height w / 5) (width w)) 1600

unfoldable pub strip_name : ℕ → ℕ → List ℕ
strip_name r k = labelled (ascii "<g><title>renter ") r (ascii ",") ++ labelled (ascii " slot ") k (ascii "<") ++ ascii "/title>"

unfoldable pub number_place : Window → List ℕ
number_place w =
    ascii "<text stroke=\"none\" fill=\"currentColor\" fill-opacity=\"1\" dy=\".35em\" transform=\"translate("
    ++ point_mark w.left w.bottom (ascii ")")
    ++ labelled (ascii "scale(.5 -.5)\" x=\"") (width w) (ascii "\"") ++ labelled (ascii " y=\"-") (height w) (ascii "\"")

unfoldable pub strip_number : Window → ℕ → List ℕ
strip_number w k =
    number_place w ++ labelled (ascii " font-size=\"") (number_size w) (ascii "\"") ++ labelled (ascii ">") k (ascii "<")
    ++ ascii "/text></g>\n"

unfoldable pub strip_art : ℕ → ℕ → Window → List ℕ
strip_art r k w = strip_name r k ++ ascii "<path d=\"M" ++ round_path w ++ ascii "\"/>" ++ strip_number w k
