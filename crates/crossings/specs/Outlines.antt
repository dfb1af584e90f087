-- The outlines that are cut: those that no call refuses.
--   OutlineOnTable zs   zs is x and y of 3 to 64 corners, all on the table, in strictly convex order
use Rattle.std.specs.Prelude.{List, ℤ}
use Rattle.rings.specs.Rings.{StrictlyConvex}
use Rattle.convex.specs.Corners.{corners_of}
use Rattle.convex.specs.Corners.{CornersOnTable}

pub record OutlineOnTable (zs : List ℤ) : Type 0 where
  pub corners : CornersOnTable zs
  pub convex : StrictlyConvex (corners_of zs)
