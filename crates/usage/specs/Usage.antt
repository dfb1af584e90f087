-- What is said of a line that is no order.
--   fault_words f   the sentence for the fault f: what a line is, or what its command takes
use Rattle.std.specs.Prelude.{List, ℕ}
use Rattle.text.specs.Pages.{ascii}
use Rattle.orders.specs.declared.Fault.{Fault}

unfoldable pub fault_words : Fault → List ℕ
fault_words Fault.Word = ascii "a line is book R l b r t, release R slot, strips R or show"
fault_words Fault.Book = ascii "book takes the renter, 0 or 1, and four numbers of millimetres: left, bottom, right, top"
fault_words Fault.Release = ascii "release takes the renter and his slot, two whole numbers"
fault_words Fault.Strips = ascii "strips takes the renter"
fault_words Fault.Show = ascii "show takes nothing"
