-- The orders in which an outline is cut along the sides of a window.
--   without k xs      the list xs without its member at the place k
--   sides_in o         the four sides in the order o: of their arrangements in dictionary order that at place o, from 0 to 23
--   side_in o k        the k-th of them, from 0 on
--   lines_in o w       the lines of a window's sides in the order o
--   places_of ss      the places of sides, as the program numbers them
use Rattle.std.specs.Prelude.{List, [], ◌∷◌, map, ℕ, zero, suc, ◌/◌, ◌%◌, get_or}
use Rattle.grid.specs.declared.Window.{Window}
use Rattle.grid.specs.Sides.{Side, left, right, bottom, top, place_of}
use Rattle.rings.specs.Points.{Line}
use Rattle.limits.specs.Sides.{side_line}

abbrev pub without : ℕ → List Side → List Side
without k [] = []
without zero (x ∷ xs) = xs
without (suc k) (x ∷ xs) = x ∷ without k xs

-- the first side stays for six orders, the second for two, the third for one
unfoldable pub sides_in : ℕ → List Side
sides_in o =
    let all : List Side = left ∷ right ∷ bottom ∷ top ∷ [] in
    let three = without (o / 6) all in
    let two = without (o % 6 / 2) three in
    get_or all (o / 6) left ∷ get_or three (o % 6 / 2) left ∷ get_or two (o % 2) left ∷ without (o % 2) two

abbrev pub side_in : ℕ → ℕ → Side
side_in o k = get_or (sides_in o) k left

unfoldable pub lines_in : ℕ → Window → List Line
lines_in o w = map (side_line w) (sides_in o)

abbrev pub places_of : List Side → List ℕ
places_of ss = map place_of ss
