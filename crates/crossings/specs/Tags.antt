-- The lines that the edges of a ring in memory lie on, each by its name, its tag.
--   stroke_from ax ay bx by  the stroke from (ax, ay) to (bx, by)
--   line_of e            the line from the start of a stroke to its end
--   edge_of zs k         of the outline zs, the edge from the corner k to the next
--   side_stroke w k      a stroke on the line of the window's side k, of length 1
--   side_tag k           the tag that names the line of the window's side k: 64 and the side's place
--   Names w zs t e      the tag t names the line of e: below 64 the outline's own edge from its corner t, from 64 on a side of the window
--   Named w zs t        t names a line
--   Lies w zs t p q     p and q lie on the line that t names
use Rattle.std.specs.Prelude.{List, ℕ, ◌+◌, ◌*◌, ◌/◌, ◌<◌, ℤ, pos, length, get_or}
use Rattle.grid.specs.declared.Window.{Window}
use Rattle.grid.specs.declared.Stroke.{Stroke}
use Rattle.grid.specs.Sides.{Side, left, right, bottom, top, place_of}
use Rattle.rings.specs.Points.{Point, Line, through, On}
use Rattle.convex.specs.Corners.{grid_point, next}

abbrev pub stroke_from : ℤ → ℤ → ℤ → ℤ → Stroke
stroke_from ax ay bx by = record { x1 = ax; y1 = ay; x2 = bx; y2 = by }

abbrev pub line_of : Stroke → Line
line_of e = through (grid_point e.x1 e.y1) (grid_point e.x2 e.y2)

unfoldable pub edge_of : List ℤ → ℕ → Stroke
edge_of zs k =
    let j = next (length zs / 2) k in
    stroke_from (get_or zs (2 * k) (pos 0)) (get_or zs (2 * k + 1) (pos 0)) (get_or zs (2 * j) (pos 0)) (get_or zs (2 * j + 1) (pos 0))

unfoldable pub side_stroke : Window → Side → Stroke
side_stroke w left = stroke_from w.left (pos 0) w.left (pos 1)
side_stroke w right = stroke_from w.right (pos 0) w.right (pos 1)
side_stroke w bottom = stroke_from (pos 0) w.bottom (pos 1) w.bottom
side_stroke w top = stroke_from (pos 0) w.top (pos 1) w.top

abbrev pub side_tag : Side → ℤ
side_tag k = pos (64 + place_of k)

pub data Names (w : Window) (zs : List ℤ) : ℤ → Stroke → Type 0 where
  edge : (k : ℕ) → k < length zs / 2 → Names w zs (pos k) (edge_of zs k)
  side : (k : Side) → Names w zs (side_tag k) (side_stroke w k)

abbrev pub Named : Window → List ℤ → ℤ → Type 0
Named w zs t = (e : Stroke) × Names w zs t e

pub record Lies (w : Window) (zs : List ℤ) (t : ℤ) (p q : Point) : Type 0 where
  pub stroke : Stroke
  pub named : Names w zs t stroke
  pub from : On (line_of stroke) p
  pub to : On (line_of stroke) q
