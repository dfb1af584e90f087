-- What stands below the drawing in a picture. The unit is a hundredth of a grid step, as in `frames`; e = extent v is the view's longer side.
--   caption_place v      the place below the drawing, 12 e and the view's height from the top
--   strip_size w         the size of the strip w in millimetres, exact
--   caption w v k n     the ruler; to the right of its words the strip's size, and below it that k of n strokes are kept
use Rattle.std.specs.Prelude.{List, ◌++◌, ℕ, ◌+◌, ◌*◌}
use Rattle.grid.specs.declared.Window.{Window}
use Rattle.text.specs.Pages.{ascii}
use Rattle.marks.specs.Marks.{labelled_pair, kept_mark}
use Rattle.view.specs.Views.{width, height, extent}
use Rattle.measures.specs.Measures.{millimetres}
use Rattle.ruler.specs.Rulers.{ruler}

unfoldable pub caption_place : Window → List ℕ
caption_place v =
    labelled_pair (ascii "<g transform=\"translate(") (6 * extent v) (100 * height v + 12 * extent v) (ascii ")") ++ ascii "\">\n"

unfoldable pub strip_size : Window → List ℕ
strip_size w = ascii "strip " ++ millimetres (width w) ++ ascii " x " ++ millimetres (height w) ++ ascii " mm</text>\n"

unfoldable pub caption : Window → Window → ℕ → ℕ → List ℕ
caption w v k n =
    caption_place v ++ ruler (extent v) ++ ascii "</text>\n<text x=\"100\" y=\"5\" text-anchor=\"end\">" ++ strip_size w
    ++ ascii "<text x=\"100\" y=\"9.2\" text-anchor=\"end\">" ++ kept_mark k n (ascii "<") ++ ascii "/text>\n</g>\n</g>\n</svg>\n"
