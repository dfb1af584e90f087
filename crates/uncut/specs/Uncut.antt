-- An outline's own corners.
--   own_corner zs k   of the outline zs, x y x y .., the corner at place k
use Rattle.std.specs.Prelude.{List, ℕ, ◌+◌, ◌*◌, ℤ, pos, get_or}
use Rattle.rings.specs.Points.{Point}
use Rattle.convex.specs.Corners.{grid_point}

abbrev pub own_corner : List ℤ → ℕ → Point
own_corner zs k = grid_point (get_or zs (2 * k) (pos 0)) (get_or zs (2 * k + 1) (pos 0))
