-- What the replies to enter, release and strips say.
--   booking_fields a      N P SLOT;  release_fields a: N P
--   most_table            the most numbers of a table
--   AsksTable text table more    the text is M, the M numbers of the table, and then the numbers more; M is at most
--                        `most_table`
--   ReadTable behind text out r  the text is such a table of r numbers with `behind` numbers more, and all but M stand
--                        at the front of out; r is `None` where the text is something else
--   EnterArguments       what enter asks of: a table, a renter and a window;  ReleaseArguments, release: a table, a renter
--                        and a slot;  StripsArguments, strips: a room, a table and a renter
--   AsksEnter text x     the text is M t1 .. tM R l b r t of these;  AsksRelease text x: M t1 .. tM R SLOT;
--                        AsksStrips text x: ROOM M t1 .. tM R
--   EnterLine, ReleaseLine, StripsLine text after r   r is the reply to the text after the word, with `after` in the
--                        output
use Rattle.std.specs.Prelude.{◌≡◌, List, [], ◌∷◌, ◌++◌, ℕ, ◌≤◌, ℤ, Option, Some, MatchOption, length, take, drop}
use Rattle.grid.specs.Table.{sides}
use Rattle.grid.specs.declared.Window.{Window}
use Rattle.arguments.specs.Arguments.{numbers_in, behind_first}
use Rattle.lending.specs.Lent.{AsksRoom, Lends}
use Rattle.strip_book.specs.Books.{BookStrip, ReleaseSlot}
use Rattle.strip_book.specs.declared.BookingAnswer.{BookingAnswer}
use Rattle.strip_book.specs.declared.ReleaseAnswer.{ReleaseAnswer}
use Rattle.own_strips.specs.OwnStrips.{ListStrips}
use Rattle.replies.specs.Replies.{Fields, none, ◌and◌, number, plain, answer_fields, Tells, Replies}
use Rattle.replies.specs.declared.Reply.{Reply}

-- ---- the fields

abbrev pub booking_fields : BookingAnswer → Fields
booking_fields a = none and plain a.number and plain a.place and number a.slot

abbrev pub release_fields : ReleaseAnswer → Fields
release_fields a = none and plain a.number and plain a.place

-- ---- the table

abbrev pub most_table : ℕ
most_table = 20000

pub record AsksTable (text : List ℕ) (table more : List ℤ) : Type 0 where
  pub count : AsksRoom text (length table)
  pub numbers : numbers_in (behind_first text) ≡ Some (table ++ more)
  pub few : length table ≤ most_table

abbrev pub ReadTable : ℕ → List ℕ → List ℤ → Option ℕ → Type 0
ReadTable behind text out r =
    MatchOption r ((table more : List ℤ) → length more ≡ behind → AsksTable text table more → ⊥)
    (λ m. AsksTable text (take m out) (take behind (drop m out)))

-- ---- the lines

pub record EnterArguments : Type 0 where
  pub table : List ℤ
  pub renter : ℤ
  pub window : Window

pub record ReleaseArguments : Type 0 where
  pub table : List ℤ
  pub renter : ℤ
  pub slot : ℤ

pub record StripsArguments : Type 0 where
  pub room : ℕ
  pub table : List ℤ
  pub renter : ℤ

abbrev pub AsksEnter : List ℕ → EnterArguments → Type 0
AsksEnter text x = AsksTable text x.table (x.renter ∷ sides x.window)

abbrev pub AsksRelease : List ℕ → ReleaseArguments → Type 0
AsksRelease text x = AsksTable text x.table (x.renter ∷ x.slot ∷ [])

pub record AsksStrips (text : List ℕ) (x : StripsArguments) : Type 0 where
  pub room : AsksRoom text x.room
  pub table : AsksTable (behind_first text) x.table (x.renter ∷ [])

-- these calls work on the table in the output, which is said behind the answer's fields
abbrev pub EnterLine : List ℕ → List ℤ → Option Reply → Type 0
EnterLine text after =
    Replies (AsksEnter text)
    (λ x. let m = length x.table in Tells (λ a. BookStrip x.renter x.window a x.table (take m after)) booking_fields m)

abbrev pub ReleaseLine : List ℕ → List ℤ → Option Reply → Type 0
ReleaseLine text after =
    Replies (AsksRelease text)
    (λ x. let m = length x.table in Tells (λ a. ReleaseSlot x.renter x.slot a x.table (take m after)) release_fields m)

-- this one only looks at the table; its output holds the listing
abbrev pub StripsLine : List ℕ → List ℤ → Option Reply → Type 0
StripsLine text after =
    Replies (AsksStrips text)
    (λ x. Tells (λ a. Lends (ListStrips x.renter x.table a) (take x.room after)) answer_fields x.room)
