-- A number that was read is at most the most.
use mathlib.Core.Path.{sym, ◌∙◌}
use Rattle.words.proofs.Numerals.{unsigned_is}
use Rattle.lending.proofs.read_room.Goals as goal

pub returns-clause-room_bound : goal.returns-clause-room_bound
returns-clause-room_bound c = unsigned_is _ _ _ (sym c.in_ok-read_unsigned.was ∙ c.read_unsigned.ensures)
