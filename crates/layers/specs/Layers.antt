-- The layers of a picture, one over another. A line is some thousandths of the view's longer side wide, e grid steps: 1 for the strip's border,
-- 2 for what was drawn, 3 for what is kept. A width told so needs no word of SVG that only browsers know.
--   round_path w              the way along the strip's sides, back to where it starts
--   strip_path w e            the strip
--   drawn_paths e zs n xs k   the n strokes whose numbers are zs, light; over them, dark, the k rows xs of those that are kept;
--                            and the end of the group
use Rattle.std.specs.Prelude.{List, ◌++◌, ℕ, ◌*◌, ℤ}
use Rattle.grid.specs.declared.Window.{Window}
use Rattle.text.specs.Pages.{ascii, integer}
use Rattle.marks.specs.Marks.{point_mark}
use Rattle.paths.specs.Paths.{path_start, stroke_paths}

unfoldable pub round_path : Window → List ℕ
round_path w =
    point_mark w.left w.bottom (ascii "H") ++ (integer w.right ++ ascii "V") ++ (integer w.top ++ ascii "H")
    ++ (integer w.left ++ ascii "Z")

unfoldable pub strip_path : Window → ℕ → List ℕ
strip_path w e = path_start (ascii "<path fill=\"#e6f1f4\" stroke=\"#7d9ba6\" stroke-width=\"") e ++ ascii "M" ++ round_path w ++ ascii "\"/>\n"

unfoldable pub drawn_paths : ℕ → List ℤ → ℕ → List ℤ → ℕ → List ℕ
drawn_paths e zs n xs k =
    path_start (ascii "<path stroke=\"#cbb79a\" stroke-width=\"") (2 * e) ++ stroke_paths 4 zs n
    ++ path_start (ascii "\"/>\n<path stroke=\"#14324f\" stroke-width=\"") (3 * e) ++ stroke_paths 5 xs k ++ ascii "\"/>\n</g>\n"
