-- What stands before the artwork of a picture. Its unit is a hundredth of a grid step, so that a hundredth of the view's longer side, e = extent v,
-- is a whole number. It is 112 e wide, and as high as the view and 26 e.
--   pixels_high v        how many pixels it is high where it is 1120 wide, rounded down: the size that a viewer or a converter gives it
--   size v              its size. A browser follows the style too, and fills the window
--   frame v k n         its size, the title, which says that k of n strokes are kept, and a white ground
--   placed v            the start of a group where the drawing lies: in the middle, 6 e below the top, with the drawing's own grid numbers, which
--                       grow to the right and upward
use Rattle.std.specs.Prelude.{List, ◌++◌, ℕ, ◌+◌, ◌-◌, ◌*◌, ◌/◌}
use Rattle.grid.specs.declared.Window.{Window}
use Rattle.text.specs.Pages.{ascii}
use Rattle.marks.specs.Marks.{labelled, labelled_pair, point_mark, kept_mark}
use Rattle.view.specs.Views.{width, height, extent}

unfoldable pub pixels_high : Window → ℕ
pixels_high v = 1000 * height v / extent v + 260

unfoldable pub size : Window → List ℕ
size v =
    labelled (ascii "<svg xmlns=\"http://www.w3.org/2000/svg\" font-family=\"sans-serif\" width=\"1120\" height=\"") (pixels_high v) (ascii "\"")
    ++ labelled_pair (ascii " viewBox=\"0 0 ") (112 * extent v) (100 * height v + 26 * extent v) (ascii "\"")
    ++ ascii ">\n<style>@media screen{:root{width:100%;height:100%;background:white}}</style>\n<title>"

unfoldable pub frame : Window → ℕ → ℕ → List ℕ
frame v k n = size v ++ kept_mark k n (ascii "<") ++ ascii "/title>\n<rect width=\"100%\" height=\"100%\" fill=\"white\"/>\n"

unfoldable pub placed : Window → List ℕ
placed v =
    labelled_pair (ascii "<g fill=\"none\" stroke-linecap=\"round\" transform=\"translate(") (56 * extent v - 50 * width v) (6 * extent v) (ascii ")")
    ++ ascii "scale(-100 100)translate(" ++ point_mark v.left v.top (ascii ")") ++ ascii "scale(-1)\">\n"
