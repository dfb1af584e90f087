-- The sheet of a strip book: a picture of the glass table with the strips of both renters. The unit of the picture is a hundredth of a grid step, as
-- in `frames`; inside the table's group it is a grid step.
--   table             the whole table of glass, from -16383 to 16383 in both directions
--   sheet_head n m     the sheet's size, its title, which says that the renters have n and m strips, and a white ground
--   glass zs          the table at its place, and on it the strips of both renters of the book zs
--   sheet_foot n m     below the table the ruler and the legend, and the end of the sheet
--   sheet zs          the sheet of the book zs
use Rattle.std.specs.Prelude.{List, ◌++◌, ℕ, ℤ, pos, neg_ℤ}
use Rattle.grid.specs.Table.{farthest}
use Rattle.grid.specs.declared.Window.{Window}
use Rattle.text.specs.Pages.{ascii}
use Rattle.marks.specs.Marks.{labelled}
use Rattle.view.specs.Views.{extent}
use Rattle.frames.specs.Frames.{size, placed}
use Rattle.layers.specs.Layers.{strip_path}
use Rattle.captions.specs.Captions.{caption_place}
use Rattle.ruler.specs.Rulers.{ruler}
use Rattle.legend.specs.Legends.{legend}
use Rattle.renter_art.specs.RenterArt.{strip_count, renter_art}

unfoldable pub table : Window
table = record { left = neg_ℤ (pos farthest); bottom = neg_ℤ (pos farthest); right = pos farthest; top = pos farthest }

unfoldable pub sheet_head : ℕ → ℕ → List ℕ
sheet_head n m =
    size table ++ labelled (ascii "strip book: ") n (ascii " ") ++ labelled (ascii "+ ") m (ascii " ")
    ++ ascii "strips</title>\n<rect width=\"100%\" height=\"100%\" fill=\"white\"/>\n"

unfoldable pub glass : List ℤ → List ℕ
glass zs = placed table ++ strip_path table (extent table) ++ renter_art 0 zs ++ renter_art 1 zs ++ ascii "</g>\n"

unfoldable pub sheet_foot : ℕ → ℕ → List ℕ
sheet_foot n m =
    caption_place table ++ ruler (extent table) ++ ascii "</text>\n" ++ legend n m ++ ascii "</g>\n</g>\n</svg>\n"

unfoldable pub sheet : List ℤ → List ℕ
sheet zs = let n = strip_count 0 zs in let m = strip_count 1 zs in sheet_head n m ++ glass zs ++ sheet_foot n m
