-- The corners before k stand in the memory, and what stood before them still does.
use Rattle.memory.specs.Tagged.{loaded_of, Brought}
use Rattle.first_pass.proofs.load.Given as goal

abbrev pub invariant-loop-k : goal.invariant-loop-k
invariant-loop-k l = Brought (loaded_of l.outline) l.fn.m l.m l.from l.k l.at
