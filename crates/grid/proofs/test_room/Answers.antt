-- Each return is the test that led there.
use borrow.Author.Tests.{le-leb, lt-leb}
use Rattle.grid.specs.Refusals.{room_refusal, tested}
use Rattle.grid.proofs.test_room.Goals as goal

pub returns-then-room-need : goal.returns-then-room-need
unfolding room_refusal tested
returns-then-room-need c = simp (lt-leb _ _ c.if-room-need.true)

pub returns : goal.returns
unfolding room_refusal tested
returns c = simp (le-leb _ _ c.if-room-need.false)
