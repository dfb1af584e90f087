-- What a line that is not taken may have meant: the slips that are known, in the order in which they are looked for.
--   has_mark l          the line l starts with a byte-order mark, the three bytes that some editors put before a text
--   unseen l           a tab stands in the line l, or a carriage return
--   is_capital b        b is the code of a capital letter
--   of_digits w         the slip in a number that starts with a digit: an e
--   of_plain w          the slip in a number without its minus, the first of these that applies
--   of_number w         the slip in a word that should be a number
--   s or_else s'       s, or s' where s is none
--   of_numbers l i n    the first slip in the next n words of l from the place i on, which should be numbers
--   of_line l n         the slip in the line l, whose first word should be followed by n numbers
use Rattle.std.specs.Prelude.{Option, Some, None, Bool, ◌&&◌, ◌||◌, List, ℕ, zero, suc, ◌-◌, eqb, leb, length, get_or, drop}
use Rattle.whole.specs.Choice.{when◌then◌else◌}
use Rattle.text.specs.Runs.{run, is, is_in}
use Rattle.decimal.specs.Decimals.{is_digit}
use Rattle.pen_line.specs.Lines.{start_of, end_of, word}
use Rattle.slips.specs.declared.Slip.{Slip}
use Rattle.slips.specs.declared.Slip.TheVariants.{Mark, Unseen, Capital, Comma, PointLast, PointFirst, Plus, Exponent}

unfoldable pub has_mark : List ℕ → Bool
has_mark l = eqb (get_or l 0 0) 239 && (eqb (get_or l 1 0) 187 && eqb (get_or l 2 0) 191)

unfoldable pub unseen : List ℕ → Bool
unseen l = is_in 9 l || is_in 13 l

unfoldable pub is_capital : ℕ → Bool
is_capital b = leb 65 b && leb b 90

unfoldable pub of_digits : List ℕ → Option Slip
of_digits w = when is_in 101 w || is_in 69 w then Some Exponent else None

-- A comma before all else: what stands around it may be two numbers.
unfoldable pub of_plain : List ℕ → Option Slip
of_plain w =
    when is_in 44 w then Some Comma
    else when eqb (get_or w (length w - 1) 0) 46 then Some PointLast
    else when eqb (get_or w 0 0) 46 then Some PointFirst
    else when eqb (get_or w 0 0) 43 then Some Plus
    else when is_digit (get_or w 0 0) then of_digits w
    else None

unfoldable pub of_number : List ℕ → Option Slip
of_number w = of_plain (drop (run (is 45) w) w)

infixr 30 ◌or_else◌
unfoldable pub ◌or_else◌ : Option Slip → Option Slip → Option Slip
Some s or_else t = Some s
None or_else t = t

-- Only as many words as are asked for: what follows them is answered by how many there may be.
unfoldable pub of_numbers : List ℕ → ℕ → ℕ → Option Slip
of_numbers l i zero = None
of_numbers l i (suc n) = of_number (word l i) or_else of_numbers l (end_of l i) n

-- What is not seen on a screen comes first.
unfoldable pub of_line : List ℕ → ℕ → Option Slip
of_line l n =
    when has_mark l then Some Mark
    else when unseen l then Some Unseen
    else when is_capital (get_or l (start_of l 0) 0) then Some Capital
    else of_numbers l (end_of l 0) n
