-- `strokes::plain::beyond` meets its contract: where both ends are beyond the same side, all of the way is; else one of them is not. Assumes nothing.
use Rattle.std.proofs.Common.{arith, ◌<ℤ◌}
use Rattle.std.proofs.lemmas.Int.{clamps, ints}
use Rattle.strokes.proofs.Coordinates.{not_below, not_above}
use Rattle.strokes.proofs.plain.beyond.Goals as goal

pub returns-then-b-lo-clause-fact : goal.returns-then-b-lo-clause-fact
returns-then-b-lo-clause-fact c e n d t k =
    let i : c.args.a <ℤ c.args.lo = omega (arith, ints) in
    let j : c.args.b <ℤ c.args.lo = omega (arith, ints) in
    not_below i j t k

pub returns-clause-fact : goal.returns-clause-fact
returns-clause-fact c e n d t k =
    let i : c.args.hi <ℤ c.args.a = omega (arith, ints, clamps) in
    let j : c.args.hi <ℤ c.args.b = omega (arith, ints, clamps) in
    not_above i j t k

pub returns-clause-may_reach : goal.returns-clause-may_reach
returns-clause-may_reach c e = record { up = λ i. omega (arith, ints); down = λ i j k. omega (arith, ints, clamps) }
