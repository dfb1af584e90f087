-- Laws of the Cyrus-Beck call, proved in proofs/Answers.antt and proofs/Edges.antt.
--   OneCornerAnswer   two answers that are right for one list of corners and one stroke are equal
--   EdgeOrOwnEnd      the side of t0 is 255 exactly where t0 is 0/1, and that of t1 exactly where t1 is 1/1 or nothing is kept; else it is an edge's
--                     number, below the count of the corners
--   EveryEdge         a fraction is kept exactly where it is from 0 to 1 and satisfies p·t ≤ q for every edge
use Rattle.std.specs.Prelude.{◌≡◌, List, ◌↔◌, ℤ, length}
use Rattle.grid.specs.declared.Stroke.{Stroke}
use Rattle.rings.specs.Points.{Point}
use Rattle.convex.specs.Corners.{corners_of}
use Rattle.spans.specs.Sides.{MeetsAll, OwnEnds}
use Rattle.corners.specs.Corners.{KeepsIn, CyrusBeck}
use Rattle.corners.specs.Edges.{edge_conditions}
use Rattle.corners.specs.declared.CornerAnswer.{CornerAnswer}

abbrev pub OneCornerAnswer : Type 0
OneCornerAnswer = (zs : List ℤ) (s : Stroke) (a b : CornerAnswer) → CyrusBeck zs s a → CyrusBeck zs s b → a ≡ b

abbrev pub EdgeOrOwnEnd : Type 0
EdgeOrOwnEnd = (zs : List ℤ) (s : Stroke) (a : CornerAnswer) → CyrusBeck zs s a
    → OwnEnds (length (corners_of zs)) a.kept a.t0 a.t1 a.side0 a.side1

-- the rule's own words for what is kept; `KeepsIn` says the same of points in the plane
abbrev pub EveryEdge : Type 0
EveryEdge = (cs : List Point) (s : Stroke) (n d : ℤ) → KeepsIn cs s n d ↔ MeetsAll (edge_conditions cs s) n d
