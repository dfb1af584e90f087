-- What the bookkeeper is answered.
--   meaning_text n       how the line of each refusal ends: a colon, what its number means, and the end of the line
--   refusal_text n p     the line of a refusal: its number and its place
--   strip_refusal_text n p w   the line of a booking that is refused: the number, the place, and the strip that was asked for
--   Exactly text number t n   the answer t with the number n is this text with this number
--   Answers Says page r   the reply r is an answer: the page up to its end is a text, and Says holds of that text and of the reply's number
use Rattle.std.specs.Prelude.{◌≡◌, List, ◌++◌, ℕ, ◌≤◌, length, take}
use Rattle.text.specs.Pages.{ascii, natural}
use Rattle.refusals.specs.Words.{sentence}
use Rattle.grid.specs.declared.Window.{Window}
use Rattle.strip_lines.specs.Lines.{strip_text}
use Rattle.answers.specs.declared.Reply.{Reply}

unfoldable pub meaning_text : ℕ → List ℕ
meaning_text n = (ascii ": " ++ sentence n) ++ ascii "\n"

unfoldable pub refusal_text : ℕ → ℕ → List ℕ
refusal_text n p = ((natural n ++ ascii " ") ++ natural p) ++ meaning_text n

unfoldable pub strip_refusal_text : ℕ → ℕ → Window → List ℕ
strip_refusal_text n p w = (((natural n ++ ascii " ") ++ (natural p ++ ascii " ")) ++ strip_text w) ++ meaning_text n

abbrev pub Exactly : List ℕ → ℕ → List ℕ → ℕ → Type 0
Exactly text number t n = (t ≡ text) × (n ≡ number)

pub record Answers (Says : List ℕ → ℕ → Type 0) (page : List ℕ) (r : Reply) : Type 0 where
  pub fits : r.end ≤ length page
  pub says : Says (take r.end page) r.number
