-- Corners in memory with their tags. A tag is a number that names the line that the edge from its corner to the next lies on.
--   tag_in m i         the tag of the corner at place i of the memory m
--   Tagged            a corner with its tag
--   tagged p t        the corner p, tagged t
--   corner_in m i      the corner at place i of the memory m, with its tag
--   corners_from m i n n corners from place i on
--   corners_at m p     those at the places p
--   points_of cs       the corners without their tags
--   put_at m n p t     the memory m with the point p, tagged t, at place n
--   Brought g m m' from to at  the corners in g from one place up to another stand in m' from the place at on, and those before it are as they were in m
--   loaded_of zs       a memory with the corners of the outline zs, each tagged with its own place
use Rattle.std.specs.Prelude.{◌≡◌, List, [], ◌∷◌, ℕ, zero, suc, ◌+◌, ◌-◌, ◌*◌, ◌<◌, ℤ, pos, get_or}
use Rattle.std.proofs.lemmas.List.Edits.{sets}
use Rattle.rings.specs.Points.{Point}
use Rattle.memory.specs.Memory.{point_in}
use Rattle.memory.specs.declared.Places.{Places}

abbrev pub tag_in : List ℤ → ℕ → ℤ
tag_in m i = get_or m (4 * i + 3) (pos 0)

pub record Tagged : Type 0 where
  pub point : Point
  pub tag : ℤ

abbrev pub tagged : Point → ℤ → Tagged
tagged p t = record { point = p; tag = t }

abbrev pub corner_in : List ℤ → ℕ → Tagged
corner_in m i = tagged (point_in m i) (tag_in m i)

unfoldable pub corners_from : List ℤ → ℕ → ℕ → List Tagged
corners_from m i zero = []
corners_from m i (suc n) = corner_in m i ∷ corners_from m (suc i) n

abbrev pub corners_at : List ℤ → Places → List Tagged
corners_at m p = corners_from m p.from (p.to - p.from)

unfoldable pub points_of : List Tagged → List Point
points_of [] = []
points_of (c ∷ cs) = c.point ∷ points_of cs

abbrev pub put_at : List ℤ → ℕ → Point → ℤ → List ℤ
put_at m n p t = sets m (4 * n) (p.X ∷ p.Y ∷ p.W ∷ t ∷ [])

pub record Brought (g m m' : List ℤ) (from to at : ℕ) : Type 0 where
  pub brought : (i : ℕ) → from + i < to → corner_in m' (at + i) ≡ corner_in g (from + i)
  pub before : (i : ℕ) → i < at → corner_in m' i ≡ corner_in m i

unfoldable pub loaded_from : ℕ → List ℤ → List ℤ
loaded_from k [] = []
loaded_from k (x ∷ []) = []
loaded_from k (x ∷ y ∷ zs) = x ∷ y ∷ pos 1 ∷ pos k ∷ loaded_from (suc k) zs

abbrev pub loaded_of : List ℤ → List ℤ
loaded_of zs = loaded_from 0 zs
