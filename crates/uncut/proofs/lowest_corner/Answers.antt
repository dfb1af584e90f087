-- The test compares the outline's own corners, which are those of the ring.
use Rattle.std.proofs.Common.{arith, rules}
use Rattle.whole.specs.Choice.{Decides}
use Rattle.rings.specs.Points.{Before}
use Rattle.convex.specs.Corners.{corners_of}
use Rattle.convex.proofs.Places.{count}
use Rattle.lowest.specs.Lowest.{LowestIn}
use Rattle.lowest.proofs.Downhill.{decides_same}
use Rattle.uncut.specs.Uncut.{own_corner}
use Rattle.uncut.proofs.OwnCorners.{own_at, two_a_corner}
use Rattle.uncut.proofs.lowest_corner.Goals as goal

lowest : (c : goal.After-lowest_by) → LowestIn (corners_of c.args.c.now) c.lowest_by.result
lowest c =
    let zs = c.args.c.now in
    let n = count zs in
    c.lowest_by.ensures (corners_of zs) (record {
      ring = c.requires;
      count = omega arith;
      told = λ i j k l b e.
          let t : Decides b (Before (own_corner zs i) (own_corner zs j)) = search rules in
          decides_same (own_at zs (omega arith)) (own_at zs (omega arith)) t;
    })

pub returns-clause-inside : goal.returns-clause-inside
returns-clause-inside c = two_a_corner c.args.c.now (lowest c).inside

pub returns-clause-lowest : goal.returns-clause-lowest
returns-clause-lowest c = lowest c
