-- What comes of a line of the bookkeeper's text.
--   wrong_text f         the answer to a line that is no order: a question mark, and what the line should have been
--   came_of r done       what comes of the reply r to an order: `done` where its number is 0, and else that it was refused
--   changing r, looking r   what comes of the reply r to an order that changes the table where it is done, and to one that only looks at it
--   Does order before after page r   the order, or what was no order, is done on the table `before`, which is `after` then, and r is what came of it
--   Serves l before after page r   what `counter::serve` promises: what comes of the line l is what comes of its order
use Rattle.std.specs.Prelude.{◌≡◌, List, ◌++◌, ℕ, ◌≤◌, eqb, ℤ, Result, Ok, Err, length, take}
use Rattle.whole.specs.Choice.{when◌then◌else◌}
use Rattle.text.specs.Pages.{ascii}
use Rattle.strip_book.specs.Books.{renter_refusal}
use Rattle.intake.specs.declared.WindowMm.{WindowMm}
use Rattle.pen_line.specs.Lines.{spoken}
use Rattle.answers.specs.Answers.{Exactly, Answers}
use Rattle.answers.specs.declared.Reply.{Reply}
use Rattle.clerk.specs.Commands.{BooksAs, ReleasesAs}
use Rattle.lister.specs.Listings.{strips_text, show_text}
use Rattle.orders.specs.Orders.{Orders}
use Rattle.orders.specs.declared.Fault.{Fault}
use Rattle.orders.specs.declared.Order.{Order}
use Rattle.usage.specs.Usage.{fault_words}
use Rattle.counter.specs.declared.Outcome.{Outcome}
use Rattle.counter.specs.declared.Service.{Service}

unfoldable pub wrong_text : Fault → List ℕ
wrong_text f = (ascii "? " ++ fault_words f) ++ ascii "\n"

abbrev pub came_of : Reply → Outcome → Service
came_of r done = record { end = r.end; outcome = when eqb r.number 0 then done else Outcome.Refused }

abbrev pub changing : Reply → Service
changing r = came_of r Outcome.Changed

abbrev pub looking : Reply → Service
looking r = came_of r Outcome.Unchanged

pub data Does : Result Order Fault → List ℤ → List ℤ → List ℕ → Service → Type 0 where
  blank : {zs : List ℤ} {page : List ℕ} → Does (Ok Order.Blank) zs zs page (record { end = 0; outcome = Outcome.Unchanged })
  book : {renter : ℤ} {strip : WindowMm} {before after : List ℤ} {page : List ℕ} {r : Reply} → Answers (BooksAs renter strip before after) page r
      → Does (Ok (Order.Book renter strip)) before after page (changing r)
  release : {renter slot : ℤ} {before after : List ℤ} {page : List ℕ} {r : Reply} → Answers (ReleasesAs renter slot before after) page r
      → Does (Ok (Order.Release renter slot)) before after page (changing r)
  strips : {renter : ℤ} {zs : List ℤ} {page : List ℕ} {r : Reply} → Answers (Exactly (strips_text renter zs) (renter_refusal renter).number) page r
      → Does (Ok (Order.Strips renter)) zs zs page (looking r)
  show : {zs : List ℤ} {page : List ℕ} {r : Reply} → Answers (Exactly (show_text zs) 0) page r → Does (Ok Order.Show) zs zs page (looking r)
  wrong : {f : Fault} {zs : List ℤ} {page : List ℕ} {end : ℕ} → end ≤ length page → take end page ≡ wrong_text f
      → Does (Err f) zs zs page (record { end = end; outcome = Outcome.Refused })

pub record Serves (l : List ℕ) (before after : List ℤ) (page : List ℕ) (r : Service) : Type 0 where
  pub order : Result Order Fault
  pub read : Orders (spoken l) order
  pub done : Does order before after page r
