-- The lines so far are a book's, and so is the table.
use Rattle.std.proofs.Common.{◌≡◌, ◌+◌, ◌-◌, ◌≤◌, length}
use Rattle.book_text.specs.Readings.{Lines}
use Rattle.book_text.proofs.read_book.Given as goal

abbrev pub invariant-loop-at : goal.invariant-loop-at
invariant-loop-at l = record {
  behind_first : 1 ≤ l.at;
  within : l.at ≤ length l.text;
  few : l.line ≤ l.next + 2;
  in_table : l.next ≤ 64;
  long : length l.book ≡ 320;
  lines : Lines l.text l.line l.at l.next l.book;
}

abbrev pub decreases-loop-at : goal.decreases-loop-at
decreases-loop-at l = length l.text - l.at
