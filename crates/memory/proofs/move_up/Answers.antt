-- At the end all have moved.
use Rattle.std.proofs.Common.{◌+◌, ap, ◌∙◌, arith}
use Rattle.memory.specs.Tagged.{corner_in}
use Rattle.memory.proofs.move_up.Goals as goal

pub returns : goal.returns
returns c = record {
  brought = λ k h. ap (corner_in c.loop-i.m) (omega arith) ∙ c.loop-i.invariant.2 (c.args.from + k) (omega arith) h;
  before = λ k h. c.loop-i.invariant.1 k (omega (arith, c.loop-i.invariant.0));
}
