-- The rack is empty.
use Rattle.racks.proofs.Holding.{vacant_holds}
use Rattle.book_text.proofs.enter.Goals as goal

pub test_book-requires : goal.test_book-requires
test_book-requires c = vacant_holds
