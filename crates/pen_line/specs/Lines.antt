-- What a line of text asks for.
--   start_of l i, end_of l i   where the next word of the line l from the place i on starts, and where it ends
--   word l i              that word; it is empty where l has no more
--   Numerals l i n k bs   the next n words of l from the place i on are decimal numbers and end at k; bs has for each
--                         the four bytes of the nearest f32
--   NoNumerals l i n      those n words are not all decimal numbers, or something follows them
--   Asks w b n            the word w asks for a record: the first byte b, and n numbers. The first byte of the strip's
--                         is the drawing's version
--   Record l b bs         the line l is such a word and its numbers; the record's first byte is b, and bs are the bytes after it
--   words_end l            the answer of `words_end`: where the words of l end, at a comment, or at a carriage return
--                         that ends the line
--   spoken l              l up to there
use Rattle.std.specs.Prelude.{◌≡◌, Some, None, List, [], ◌++◌, ℕ, ◌+◌, ◌-◌, ◌<◌, eqb, ltb, length, get_or, take, drop}
use Rattle.whole.specs.Choice.{when◌then◌else◌}
use Rattle.text.specs.Pages.{ascii, big_endian}
use Rattle.text.specs.Runs.{run, is, is_not}
use Rattle.decimal.specs.Decimals.{Reads}

-- ---- words

abbrev pub start_of : List ℕ → ℕ → ℕ
start_of l i = i + run (is 32) (drop i l)

abbrev pub end_of : List ℕ → ℕ → ℕ
end_of l i = start_of l i + run (is_not 32) (drop (start_of l i) l)

abbrev pub word : List ℕ → ℕ → List ℕ
word l i = take (end_of l i - start_of l i) (drop (start_of l i) l)

-- ---- numbers

-- Word by word from the left, as they are read: each starts where the one before it ends.
pub data Numerals (l : List ℕ) (i : ℕ) : ℕ → ℕ → List ℕ → Type 0 where
  none : Numerals l i 0 i []
  one_more : {n k bits : ℕ} {bs : List ℕ} → Numerals l i n k bs → Reads (word l k) (Some bits)
      → Numerals l i (n + 1) (end_of l k) (bs ++ big_endian bits)

-- The first word that is no number shows it; the words before it are numbers.
pub data NoNumerals (l : List ℕ) (i n : ℕ) : Type 0 where
  no_number : {m k : ℕ} {bs : List ℕ} → m < n → Numerals l i m k bs → Reads (word l k) None → NoNumerals l i n
  too_many : {k : ℕ} {bs : List ℕ} → Numerals l i n k bs → (start_of l k ≡ length l → ⊥) → NoNumerals l i n

-- ---- records

-- A table: one line for each word that there is.
pub data Asks : List ℕ → ℕ → ℕ → Type 0 where
  strip : Asks (ascii "strip") 1 4
  move : Asks (ascii "move") 77 2
  line : Asks (ascii "line") 76 2
  close : Asks (ascii "close") 90 0

-- The line ends after its numbers, so that nothing on it is passed over.
pub record Record (l : List ℕ) (b : ℕ) (bs : List ℕ) : Type 0 where
  pub count : ℕ
  pub end : ℕ
  pub asks : Asks (word l 0) b count
  pub numerals : Numerals l (end_of l 0) count end bs
  pub over : start_of l end ≡ length l

-- ---- comments

unfoldable pub words_end : List ℕ → ℕ
words_end l =
    when ltb (run (is_not 35) l) (length l) then run (is_not 35) l
    else when eqb (get_or l (length l - 1) 0) 13 then length l - 1
    else length l

abbrev pub spoken : List ℕ → List ℕ
spoken l = take (words_end l) l
