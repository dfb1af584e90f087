-- A ring of corners in memory: four whole numbers a corner, X, Y and W of its point, and its tag.
--   point_of c         a corner of the program as a point
--   point_in m i       the corner at place i of the memory m
--   ring_from m i n    n corners from place i on
--   ring_in m n        the first n corners
--   places i k        the places from i up to k
--   ring_at m p        the ring at the places p of the memory m
--   largest_number     1,610,416,134 = 16,383 · 32,766 + 32,766², above every X and Y
--   Small p           the W of p is from 1 to 32,766, and its X and Y are not above largest_number
use Rattle.std.specs.Prelude.{List, [], ◌∷◌, ℕ, zero, suc, ◌+◌, ◌-◌, ◌*◌, ℤ, pos, get_or, ◌≤ℤ◌, ◌<ℤ◌}
use Rattle.whole.specs.Within.{Within}
use Rattle.rings.specs.Points.{Point}
use Rattle.memory.specs.declared.Corner.{Corner}
use Rattle.memory.specs.declared.Places.{Places}

abbrev pub point_of : Corner → Point
point_of c = record { X = c.x; Y = c.y; W = c.den }

abbrev pub point_in : List ℤ → ℕ → Point
point_in m i = record { X = get_or m (4 * i) (pos 0); Y = get_or m (4 * i + 1) (pos 0); W = get_or m (4 * i + 2) (pos 0) }

unfoldable pub ring_from : List ℤ → ℕ → ℕ → List Point
ring_from m i zero = []
ring_from m i (suc n) = point_in m i ∷ ring_from m (suc i) n

abbrev pub ring_in : List ℤ → ℕ → List Point
ring_in m n = ring_from m 0 n

abbrev pub places : ℕ → ℕ → Places
places i k = record { from = i; to = k }

abbrev pub ring_at : List ℤ → Places → List Point
ring_at m p = ring_from m p.from (p.to - p.from)

abbrev pub largest_number : ℕ
largest_number = 1610416134

pub record Small (p : Point) : Type 0 where
  pub positive : pos 0 <ℤ p.W
  pub den : p.W ≤ℤ pos 32766
  pub x : Within largest_number p.X
  pub y : Within largest_number p.Y
