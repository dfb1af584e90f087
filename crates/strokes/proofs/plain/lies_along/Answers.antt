-- `strokes::plain::lies_along` meets its contract: where both ends are outside the same side, all of the way is. Assumes nothing.
use Rattle.std.proofs.Common.{arith, ◌<ℤ◌}
use Rattle.std.proofs.lemmas.Int.{ints}
use Rattle.strokes.proofs.Coordinates.{not_below, not_above}
use Rattle.strokes.proofs.plain.lies_along.Goals as goal

pub returns-then-b-lo : goal.returns-then-b-lo
returns-then-b-lo c n d t k =
    let i : c.args.a <ℤ c.args.lo = omega (arith, ints) in
    let j : c.args.b <ℤ c.args.lo = omega (arith, ints) in
    not_below i j t k

pub returns-then-hi-b : goal.returns-then-hi-b
returns-then-hi-b c n d t k =
    let i : c.args.hi <ℤ c.args.a = omega (arith, ints) in
    let j : c.args.hi <ℤ c.args.b = omega (arith, ints) in
    not_above i j t k
