-- After k slots the text is that of the first k, and each took at most 500 bytes.
use Rattle.std.proofs.Common.{◌+◌, ◌*◌, ◌≤◌}
use Rattle.text.specs.Pages.{Put}
use Rattle.renter_art.specs.RenterArt.{slot_arts}
use Rattle.renter_art.proofs.put_slots.Given as goal

abbrev pub invariant-loop-k : goal.invariant-loop-k
invariant-loop-k l = record {
  short : l.end ≤ l.at + 500 * l.k;
  put : Put l.initial.page l.page l.at l.end (slot_arts l.renter l.book l.k);
}
