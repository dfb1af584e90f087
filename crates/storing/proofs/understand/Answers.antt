-- No file is the empty table, and else the text is read into it.
use Rattle.storing.specs.Storing.{no_file, a_text}
use Rattle.storing.proofs.understand.Goals as goal

pub returns-in-Some : goal.returns-in-Some
returns-in-Some c = rw c.in-Some.is (a_text c.read_book.ensures)

pub returns-in-None : goal.returns-in-None
returns-in-None c = rw (c.in-None.is, c.requires.table_value) no_file
