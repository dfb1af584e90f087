-- Where a line meets another.
--   NotAlong h e        the stroke e does not run along the line h
--   Meets h e p         p lies on the line h, and is where the stroke e meets it, if e does not run along it
--   Meeting w zs h t p  p is where the line that the tag t names meets the line h
use Rattle.std.specs.Prelude.{◌≡◌, List, ℤ}
use Rattle.grid.specs.declared.Window.{Window}
use Rattle.grid.specs.declared.Stroke.{Stroke}
use Rattle.rings.specs.Points.{Point, Line, value, On}
use Rattle.convex.specs.Corners.{grid_point}
use Rattle.memory.specs.Memory.{Small}
use Rattle.crossings.specs.Tags.{line_of, Names}

abbrev pub NotAlong : Line → Stroke → Type 0
NotAlong h e = value h (grid_point e.x1 e.y1) ≡ value h (grid_point e.x2 e.y2) → ⊥

pub record Meets (h : Line) (e : Stroke) (p : Point) : Type 0 where
  pub on_side : On h p
  pub on_stroke : NotAlong h e → On (line_of e) p
  pub small : NotAlong h e → Small p

pub record Meeting (w : Window) (zs : List ℤ) (h : Line) (t : ℤ) (p : Point) : Type 0 where
  pub stroke : Stroke
  pub named : Names w zs t stroke
  pub meets : Meets h stroke p
