-- What the paths of a picture are made of, in the drawing's own grid numbers.
--   path_start l n            the start of a path: the words l, its line's width, n thousandths of a grid step, and all up to its first point
--   stroke_path xs i          a stroke of a path, by the four numbers of the list xs from the place i on
--   stroke_paths step xs n    the first n strokes of a list that has `step` numbers for each, the last four of them its ends
use Rattle.std.specs.Prelude.{List, [], ◌++◌, ℕ, zero, suc, ◌+◌, ◌-◌, ◌*◌, ℤ, pos, get_or}
use Rattle.text.specs.Pages.{ascii}
use Rattle.marks.specs.Marks.{point_mark}
use Rattle.measures.specs.Measures.{thousandths}

unfoldable pub path_start : List ℕ → ℕ → List ℕ
path_start l n = l ++ thousandths n (ascii "\"") ++ ascii " d=\""

unfoldable pub stroke_path : List ℤ → ℕ → List ℕ
stroke_path xs i =
    ascii "M" ++ point_mark (get_or xs i (pos 0)) (get_or xs (i + 1) (pos 0)) (ascii "L")
    ++ point_mark (get_or xs (i + 2) (pos 0)) (get_or xs (i + 3) (pos 0)) (ascii "\n")

unfoldable pub stroke_paths : ℕ → List ℤ → ℕ → List ℕ
stroke_paths step xs zero = []
stroke_paths step xs (suc n) = stroke_paths step xs n ++ stroke_path xs (n * step + (step - 4))
