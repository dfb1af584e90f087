-- Corner windows: what the Cyrus-Beck call promises.
--   most_window_corners      a corner window has 3 to 16 corners
--   cyrus_beck_refusal zs s  what the call refuses: 3 for length and count, 2, 3 for convexity, then 6
--   point_at s n d          the stroke's point at n/d of its way
--   KeepsIn cs s n d       n/d is a fraction from 0 to 1, and the stroke's point there lies left of or on every edge
--   blank_answer r          refused by r, or missed where r is none: not kept, fractions 0/1, no sides
--   CornerClipped cs s a   a is right for corners and a stroke in which nothing is refused
--   CyrusBeck zs s a       what `corners::cyrus_beck` promises: a is right, refusals included
use Rattle.std.specs.Prelude.{◌≡◌, true, false, List, [], ◌∷◌, ℕ, ℤ}
use Rattle.fraction.specs.Rounding.{along}
use Rattle.grid.specs.declared.Refusal.{Refusal}
use Rattle.grid.specs.declared.Stroke.{Stroke}
use Rattle.grid.specs.Refusals.{window_off, no_window, none, first, off_table, stroke_refusal}
use Rattle.rings.specs.Points.{Point}
use Rattle.rings.specs.Rings.{InRing}
use Rattle.convex.specs.Corners.{corners_of, count_refusal, convex_refusal}
use Rattle.spans.specs.Parts.{Time, Part, zeroth}
use Rattle.spans.specs.Sides.{no_side, StartSide, EndSide}
use Rattle.corners.specs.Edges.{edge_conditions}
use Rattle.corners.specs.declared.CornerAnswer.{CornerAnswer}

-- ---- refusals
abbrev pub most_window_corners : ℕ
most_window_corners = 16

unfoldable pub cyrus_beck_refusal : List ℤ → Stroke → Refusal
cyrus_beck_refusal zs s =
    first (count_refusal most_window_corners no_window zs ∷ off_table window_off zs ∷ convex_refusal no_window zs ∷ stroke_refusal s ∷ [])

-- ---- the answer
abbrev pub point_at : Stroke → ℤ → ℤ → Point
point_at s n d = record { X = along s.x1 s.x2 n d; Y = along s.y1 s.y2 n d; W = d }

pub record KeepsIn (cs : List Point) (s : Stroke) (n d : ℤ) : Type 0 where
  pub time : Time n d
  pub inside : InRing cs (point_at s n d)

abbrev pub blank_answer : Refusal → CornerAnswer
blank_answer r = record { number = r.number; place = r.place; kept = false; t0 = zeroth; t1 = zeroth; side0 = no_side; side1 = no_side }

pub record CornerClipped (cs : List Point) (s : Stroke) (a : CornerAnswer) : Type 0 where
  pub number : a.number ≡ 0
  pub place : a.place ≡ 0
  pub part : Part (KeepsIn cs s) a.kept a.t0 a.t1
  pub start_side : a.kept ≡ true → StartSide (edge_conditions cs s) a.t0 a.side0
  pub end_side : a.kept ≡ true → EndSide (edge_conditions cs s) a.t1 a.side1
  pub missed : a.kept ≡ false → a ≡ blank_answer none

-- What is kept is said of points in the plane and its sides of their conditions p·t ≤ q, as for a rectangle, so that the two kinds of window can be
-- compared.
pub record CyrusBeck (zs : List ℤ) (s : Stroke) (a : CornerAnswer) : Type 0 where
  pub refused : ((cyrus_beck_refusal zs s).number ≡ 0 → ⊥) → a ≡ blank_answer (cyrus_beck_refusal zs s)
  pub done : (cyrus_beck_refusal zs s).number ≡ 0 → CornerClipped (corners_of zs) s a
