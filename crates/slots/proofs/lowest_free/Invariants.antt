-- The slots up to k are in use, so that the lowest free one is the lowest from k on.
use Rattle.std.proofs.Common.{◌≡◌, ◌+◌}
use Rattle.std.proofs.Math.Seq.{slice}
use Rattle.slots.specs.Slots.{slots_of, lowest_free}
use Rattle.slots.proofs.lowest_free.Given as goal

abbrev pub invariant-loop-k : goal.invariant-loop-k
invariant-loop-k l =
    l.k + lowest_free (slice l.k l.to (slots_of l.book)) ≡ l.from + lowest_free (slice l.from l.to (slots_of l.book))
