-- The table that is made for the book is the empty one.
use Rattle.std.proofs.Common.{refl}
use Rattle.bookkeeping.specs.Runs.{empty_book}
use Rattle.sittings.proofs.hold.Goals as goal

pub load-requires : goal.load-requires
unfolding empty_book
load-requires c = refl
