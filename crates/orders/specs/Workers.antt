-- What the workers behind the reading of a line promise each other.
--   NextWord l i s e   the next word of the line l from the place i on starts at s and ends at e
--   Begins l w i       w is the first word of the line l, and i is where it ends
--   WholeFrom l i r    the promise of `whole_from`: r is the whole number that the next word of l from the place i on is, and
--                      where that word ends; it is `None` where the word is none
--   LengthFrom l i r   the promise of `length_from`: the same for a number of millimetres
--   Names w r          the promise of `command_of`: r is the command that the word w is, if it is one
use Rattle.std.specs.Prelude.{◌≡◌, List, ℕ, ◌+◌, ◌≤◌, ℤ, Float, Option, None, Some, length, drop}
use Rattle.text.specs.Pages.{ascii}
use Rattle.text.specs.Runs.{run, is_not}
use Rattle.pen_line.specs.Lines.{start_of, end_of, word}
use Rattle.orders.specs.Orders.{place_after, word_after, IsWhole, IsLength, Unknown}
use Rattle.orders.specs.declared.Command.{Command}

pub record NextWord (l : List ℕ) (i s e : ℕ) : Type 0 where
  pub starts : s ≡ start_of l i
  pub ends : e ≡ s + run (is_not 32) (drop s l)
  pub order : s ≤ e
  pub within : e ≤ length l

pub record Begins (l w : List ℕ) (i : ℕ) : Type 0 where
  pub says : word_after l 0 ≡ w
  pub ends : i ≡ place_after l 1
  pub within : i ≤ length l

abbrev pub WholeFrom : List ℕ → ℕ → Option (ℤ × ℕ) → Type 0
WholeFrom l i None = (z : ℤ) → IsWhole (word l i) z → ⊥
WholeFrom l i (Some r) = IsWhole (word l i) r.0 × (r.1 ≡ end_of l i) × (r.1 ≤ length l)

abbrev pub LengthFrom : List ℕ → ℕ → Option (Float × ℕ) → Type 0
LengthFrom l i None = (x : Float) → IsLength (word l i) x → ⊥
LengthFrom l i (Some r) = IsLength (word l i) r.0 × (r.1 ≡ end_of l i) × (r.1 ≤ length l)

abbrev pub Names : List ℕ → Option Command → Type 0
Names w (Some Command.Book) = w ≡ ascii "book"
Names w (Some Command.Release) = w ≡ ascii "release"
Names w (Some Command.Strips) = w ≡ ascii "strips"
Names w (Some Command.Show) = w ≡ ascii "show"
Names w None = Unknown w
