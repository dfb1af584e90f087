-- What the arguments of a line are: the numbers of the text after its word.
--   word_of c            the word of the command c
--   Names w r            r is the command whose word w is; `None` where it is no command's word
--   numbers_in text       the numbers that the text's words are, where each is one that an i32 holds
--   Numbers text out r   the text's numbers are the first of out, and r is how many; r is `None` where the text is something
--                        else, or has more than out has places for
--   first_end text        where the first argument ends, at the next space; 0 where there is none
--   first_word text       the first argument, without the byte before it;  behind_first text: the text behind it
--   first_window zs       the window of the first four numbers of a list
--   PairIs text w s      the text's numbers are the four of the window w and the four of the stroke s
--   ReadPair text r      r is the window and the stroke of the text; `None` where it is no such text
use Rattle.std.specs.Prelude.{◌≡◌, List, [], ◌∷◌, ◌++◌, ℕ, ◌+◌, ℤ, pos, take, drop, get_or, Option, Some, MatchOption}
use Rattle.grid.specs.Table.{sides, ends}
use Rattle.grid.specs.declared.Stroke.{Stroke}
use Rattle.grid.specs.declared.Window.{Window}
use Rattle.text.specs.Runs.{run, is_not}
use Rattle.text.specs.Pages.{ascii}
use Rattle.words.specs.Words.{arguments, integers, Into}
use Rattle.arguments.specs.declared.Command.{Command}

abbrev pub word_of : Command → List ℕ
word_of Command.Mm2 = ascii "mm2"
word_of Command.Mm4 = ascii "mm4"
word_of Command.Back = ascii "back"
word_of Command.Lb = ascii "lb"
word_of Command.Cs = ascii "cs"
word_of Command.Xp = ascii "xp"
word_of Command.Cb = ascii "cb"
word_of Command.Batch = ascii "batch"
word_of Command.Touches = ascii "touches"
word_of Command.Outline = ascii "outline"
word_of Command.Draw = ascii "draw"
word_of Command.Enter = ascii "enter"
word_of Command.Release = ascii "release"
word_of Command.Strips = ascii "strips"

abbrev pub Names : List ℕ → Option Command → Type 0
Names w r = MatchOption r ((c : Command) → w ≡ word_of c → ⊥) (λ c. w ≡ word_of c)

abbrev pub numbers_in : List ℕ → Option (List ℤ)
numbers_in text = integers (arguments text)

abbrev pub Numbers : List ℕ → List ℤ → Option ℕ → Type 0
Numbers text out r = Into (numbers_in text) out r

abbrev pub first_end : List ℕ → ℕ
first_end [] = 0
first_end (b ∷ text) = 1 + run (is_not 32) text

abbrev pub first_word : List ℕ → List ℕ
first_word text = drop 1 (take (first_end text) text)

abbrev pub behind_first : List ℕ → List ℕ
behind_first text = drop (first_end text) text

abbrev pub first_window : List ℤ → Window
first_window zs = record {
  left = get_or zs 0 (pos 0);
  bottom = get_or zs 1 (pos 0);
  right = get_or zs 2 (pos 0);
  top = get_or zs 3 (pos 0);
}

abbrev pub PairIs : List ℕ → Window → Stroke → Type 0
PairIs text w s = numbers_in text ≡ Some (sides w ++ ends s)

abbrev pub ReadPair : List ℕ → Option (Window × Stroke) → Type 0
ReadPair text r = MatchOption r ((w : Window) (s : Stroke) → PairIs text w s → ⊥) (λ p. PairIs text p.0 p.1)
