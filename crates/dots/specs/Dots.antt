-- The dots and rings of a picture: rows whose two ends are one grid point. Where the drawn stroke has no length either, the dot is meant, and it is
-- filled. Else the kept piece is so short that both its ends round to one grid point, and it is an open ring. A stroke that only touches the strip
-- has no row, and so no point.
--   spread xs i            how far the ends of a stroke are apart, along both axes together, by the four numbers of the list xs from the place i on
--   marked l zs xs n       whether the two ends of row n of the list xs are one point, and its stroke in the list zs has a spread of l or more
--   point_path l zs xs n    row n, if it is marked
--   point_paths l zs xs n   the marked ones of the first n rows
--   points e zs xs n       all points dark, 10 thousandths of the view's longer side e wide; over those whose stroke has a length a white one,
--                          half as wide; and the end of the group
use Rattle.std.specs.Prelude.{Bool, false, List, [], ◌++◌, ℕ, zero, suc, ◌+◌, ◌*◌, eqb, leb, ℤ, pos, get_or}
use Rattle.whole.specs.Choice.{when◌then◌else◌}
use Rattle.text.specs.Pages.{ascii}
use Rattle.view.specs.Views.{apart}
use Rattle.paths.specs.Paths.{path_start, stroke_path}

unfoldable pub spread : List ℤ → ℕ → ℕ
spread xs i =
    apart (get_or xs i (pos 0)) (get_or xs (i + 2) (pos 0)) + apart (get_or xs (i + 1) (pos 0)) (get_or xs (i + 3) (pos 0))

-- A row's first number is its stroke's index, counted from 0.
unfoldable pub marked : ℕ → List ℤ → List ℤ → ℕ → Bool
marked l zs xs n = when eqb (spread xs (n * 5 + 1)) 0 then leb l (spread zs (apart (pos 0) (get_or xs (n * 5) (pos 0)) * 4)) else false

unfoldable pub point_path : ℕ → List ℤ → List ℤ → ℕ → List ℕ
point_path l zs xs n = when marked l zs xs n then stroke_path xs (n * 5 + 1) else []

unfoldable pub point_paths : ℕ → List ℤ → List ℤ → ℕ → List ℕ
point_paths l zs xs zero = []
point_paths l zs xs (suc n) = point_paths l zs xs n ++ point_path l zs xs n

unfoldable pub points : ℕ → List ℤ → List ℤ → ℕ → List ℕ
points e zs xs n =
    path_start (ascii "<path stroke=\"#14324f\" stroke-width=\"") (10 * e) ++ point_paths 0 zs xs n
    ++ path_start (ascii "\"/>\n<path stroke=\"white\" stroke-width=\"") (5 * e) ++ point_paths 1 zs xs n ++ ascii "\"/>\n</g>\n"
