-- The table that is made for the text is empty, and its book is drawn.
use Rattle.std.proofs.Common.{refl}
use Rattle.bookkeeping.specs.Runs.{empty_book}
use Rattle.sheet.proofs.Drawing.{is_drawn, is_faulty}
use Rattle.sheet.proofs.draw.Goals as goal

pub read_book-requires : goal.read_book-requires
unfolding empty_book
read_book-requires c = refl

pub returns-in-Ok : goal.returns-in-Ok
returns-in-Ok c = is_drawn c.in-Ok.is c.read_book.ensures c.put_sheet.ensures

pub returns-in-Err : goal.returns-in-Err
returns-in-Err c = is_faulty c.in-Err.is c.read_book.ensures
