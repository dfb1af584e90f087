-- The lines of a listing.
--   strip_line w         the strip's line: its left, bottom, right and top side
--   row_line k a b c d   the line of a kept stroke: its index, and its two rounded points
--   row_at xs i          the line of the five numbers of the list xs from the place i on
--   row_lines xs         the lines of the batch's rows, five numbers each
--   listed w n xs k     the listing of a drawing that is cut: its strip w, the rows xs of the k strokes that are kept, and that they are k of n
use Rattle.std.specs.Prelude.{List, [], ◌∷◌, ◌++◌, ℕ, ◌+◌, ℤ, pos, get_or}
use Rattle.grid.specs.declared.Window.{Window}
use Rattle.text.specs.Pages.{ascii, integer}
use Rattle.marks.specs.Marks.{point_mark, kept_mark}

unfoldable pub strip_line : Window → List ℕ
strip_line w = ascii "strip " ++ point_mark w.left w.bottom (ascii " ") ++ point_mark w.right w.top (ascii "\n")

unfoldable pub row_line : ℤ → ℤ → ℤ → ℤ → ℤ → List ℕ
row_line k a b c d = (integer k ++ ascii " ") ++ point_mark a b (ascii " ") ++ point_mark c d (ascii "\n")

abbrev pub row_at : List ℤ → ℕ → List ℕ
row_at xs i = row_line (get_or xs i (pos 0)) (get_or xs (i + 1) (pos 0)) (get_or xs (i + 2) (pos 0)) (get_or xs (i + 3) (pos 0)) (get_or xs (i + 4) (pos 0))

unfoldable pub row_lines : List ℤ → List ℕ
row_lines (k ∷ a ∷ b ∷ c ∷ d ∷ xs) = row_line k a b c d ++ row_lines xs
row_lines (k ∷ a ∷ b ∷ c ∷ []) = []
row_lines (k ∷ a ∷ b ∷ []) = []
row_lines (k ∷ a ∷ []) = []
row_lines (k ∷ []) = []
row_lines [] = []

unfoldable pub listed : Window → ℕ → List ℤ → ℕ → List ℕ
listed w n xs k = strip_line w ++ row_lines xs ++ kept_mark k n (ascii "\n")
