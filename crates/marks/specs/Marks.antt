-- What a listing and a picture are both made of, each with the bytes t that stand after it.
--   labelled l n t         the label l and a number
--   labelled_pair l m n t   the label l and two numbers, with a space between
--   point_mark x y t        a point: two numbers with their signs, with a space between
--   kept_mark k n t         that k of n strokes are kept
use Rattle.std.specs.Prelude.{List, ◌++◌, ℕ, ℤ}
use Rattle.text.specs.Pages.{ascii, natural, integer}

unfoldable pub labelled : List ℕ → ℕ → List ℕ → List ℕ
labelled l n t = l ++ (natural n ++ t)

unfoldable pub labelled_pair : List ℕ → ℕ → ℕ → List ℕ → List ℕ
labelled_pair l m n t = labelled l m (ascii " ") ++ (natural n ++ t)

unfoldable pub point_mark : ℤ → ℤ → List ℕ → List ℕ
point_mark x y t = (integer x ++ ascii " ") ++ (integer y ++ t)

unfoldable pub kept_mark : ℕ → ℕ → List ℕ → List ℕ
kept_mark k n t = labelled (ascii "kept ") k (ascii " ") ++ labelled (ascii "of ") n t
