-- What is put and what is left to put are all decimals; each took at most 20 bytes.
use Rattle.std.proofs.Common.{◌*◌, arith}
use native.Mathlib.Nat.{mod-lt}
use Rattle.measures.proofs.Divisions.{dividing_start, dividing_on, nothing_left, none_more}
use Rattle.measures.proofs.put_decimals.Goals as goal

pub loop-init : goal.loop-init
loop-init c = (omega arith, omega arith, dividing_start _ _ (omega arith))

pub returns-then-left-eq0-clause-put : goal.returns-then-left-eq0-clause-put
returns-then-left-eq0-clause-put c = nothing_left c.loop.invariant.2 c.if-left-eq0.true

pub loop-preserved : goal.loop-preserved
loop-preserved c = (
  mod-lt (c.loop.left * 10) (omega arith),
  omega (arith, c.put_natural-end.ensures.upper_bound),
  dividing_on c.loop.invariant.2 _ (omega arith) c.if-left-eq0.false c.put_natural-end.ensures.put,
)

pub returns-clause-put : goal.returns-clause-put
returns-clause-put c = none_more c.loop.invariant.2 (omega arith)
