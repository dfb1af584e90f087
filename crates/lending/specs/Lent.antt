-- What a line lends, and what a lent output holds before the call.
--   most_room           the most numbers of a lent output
--   Prepared xs        number i of xs is 7,000,000 + i
--   Lends Call after   a call leaves `after` in an output that was prepared before it
--   AsksRoom text n    the first argument is the room n
--   ListArguments      what a line with a list asks of: a room, a window, and a list of numbers
--   AsksList most text x   the text is ROOM l b r t M and M numbers, of x, and M + 5 is at most `most`
--   ReadList text out r    r is what the text with a list was read as, with all but the room in out; `None` where it is
--                          no such text
use Rattle.std.specs.Prelude.{◌≡◌, List, ◌∷◌, ◌++◌, ℕ, ◌+◌, ◌-◌, ◌≤◌, ◌<◌, ℤ, pos, length, take, drop, get_or, Option, Some, MatchOption}
use Rattle.grid.specs.Table.{sides}
use Rattle.grid.specs.declared.Window.{Window}
use Rattle.words.specs.Words.{numeral, unsigned}
use Rattle.arguments.specs.Arguments.{numbers_in, first_word, behind_first, first_window}
use Rattle.lending.specs.declared.Listed.{Listed}

abbrev pub most_room : ℕ
most_room = 40960

abbrev pub Prepared : List ℤ → Type 0
Prepared xs = (i : ℕ) → i < length xs → get_or xs i (pos 0) ≡ pos (7000000 + i)

pub record Lends (Call : List ℤ → List ℤ → Type 0) (after : List ℤ) : Type 0 where
  pub before : List ℤ
  pub same : length before ≡ length after
  pub prepared : Prepared before
  pub call : Call before after

-- ---- what is read

abbrev pub AsksRoom : List ℕ → ℕ → Type 0
AsksRoom text n = unsigned most_room (numeral (first_word text)) ≡ Some n

pub record ListArguments : Type 0 where
  pub room : ℕ
  pub window : Window
  pub list : List ℤ

pub record AsksList (most : ℕ) (text : List ℕ) (x : ListArguments) : Type 0 where
  pub room : AsksRoom text x.room
  pub numbers : numbers_in (behind_first text) ≡ Some (sides x.window ++ (pos (length x.list) ∷ x.list))
  pub few : length x.list + 5 ≤ most

abbrev pub ReadList : List ℕ → List ℤ → Option Listed → Type 0
ReadList text out r =
    MatchOption r ((x : ListArguments) → AsksList (length out) text x → ⊥)
    (λ l. AsksList (length out) text (record { room = l.room; window = first_window out; list = take (l.end - 5) (drop 5 out) }))
