-- 32 strips have 160 numbers, and no listing has more.
use Rattle.std.proofs.Common.{arith}
use Rattle.own_strips.proofs.Listed.{listed_most}
use Rattle.own_strips.proofs.Listing.{enough_room}
use Rattle.own_strips.proofs.test_room.Goals as goal

pub returns-then-room-ge160 : goal.returns-then-room-ge160
returns-then-room-ge160 c = enough_room _ c.args.room (omega (arith, listed_most c.args.from c.args.book.now, c.if-room-ge160.true))
