-- The slots from the place 320 - 40 * behind on have passed the test each by itself, and their strips are on the rack.
use Rattle.std.proofs.Common.{◌*◌, ◌-◌}
use Rattle.slots.specs.Workers.{slots_from, Gathered}
use Rattle.slots.proofs.gather.Given as goal

abbrev pub invariant-loop-behind : goal.invariant-loop-behind
invariant-loop-behind l = Gathered (slots_from (320 - 40 * l.behind) l.book) l.n l.rack
