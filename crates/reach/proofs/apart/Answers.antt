-- The first of the four comparisons that holds names the side.
use Rattle.std.proofs.Common.{arith}
use Rattle.std.proofs.lemmas.Int.{ints}
use Rattle.grid.specs.Sides.{left, right, bottom, top}
use Rattle.reach.proofs.apart.Goals as goal
use Rattle.reach.proofs.apart.Goals.{then-w-b, else-w-b, then-b-w, else-b-w}

pub returns-then-b-w-2 : goal.returns-then-b-w-2
returns-then-b-w-2 c e =
    elim c.if-w-b.branch [
      | then-w-b w ↦ elim c.if-b-w.branch [ then-b-w v ↦ (left, grind (arith, ints)) | else-b-w v ↦ (right, grind (arith, ints)) ]
      | else-w-b w ↦ (bottom, grind (arith, ints))
    ]

pub returns-else-b-w-2 : goal.returns-else-b-w-2
returns-else-b-w-2 c e = (top, grind (arith, ints))
