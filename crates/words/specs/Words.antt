-- The words of a line, and the numbers that they are; `None` where they are no such number.
--   up_to most o       the number o, where it is one of at most `most`
--   has_minus w        the word w begins with a minus
--   numeral w         the whole number that the word w is: decimal digits, with a minus in front or without
--   unsigned most o   the number o, where it is one from 0 to `most`
--   as_integer o       the number o, where it is one that an i32 holds
--   with_bits n        the f32 with the bits n, where there are such; every pattern of a NaN is the NaN
--   single w          the f32 that the word w is: eight hexadecimal digits of its bits
--   pattern x         the word of the f32 x, in small letters
--   onto b ws         the words ws, with the byte b in front of the first
--   words l           l, cut at each space
--   arguments l       the words of l after its first byte; none where it is empty
--   and x o           the list o, where there is one, with x in front;  and_integer n o: the same, where n is a number
--   integers ws       the numbers that the words ws are, where each is one that an i32 holds
--   pairs w           the bytes that w is, as pairs of hexadecimal digits
--   bytes w           the same for a word, which is not empty; a minus alone stands for no bytes
--   Into o out r      the list o was put at the front of out, and is r long; r is `None` where there is no list, or out has no room for it
use Rattle.std.specs.Prelude.{◌≡◌, Bool, false, ◌&&◌, List, [], ◌∷◌, ℕ, ◌+◌, ◌*◌, ◌≤◌, ◌<◌, ◌^◌, leb, ltb, eqb, ℤ, pos, negsuc, neg_ℤ, Float, Option, None, Some, MatchOption, option_map, length, take, drop}
use Rattle.std.specs.Float.{binary32}
use Rattle.std.specs.Float.Ieee.{of_bits, to_bits}
use Rattle.std.specs.Int.Signed.{mag}
use Rattle.io.specs.Digits.{last_digits}
use Rattle.whole.specs.Choice.{when◌then◌else◌}
use Rattle.words.specs.Digits.{digit_of, word_value}

-- ---- numbers

unfoldable pub up_to : ℕ → Option ℕ → Option ℕ
up_to most None = None
up_to most (Some n) = when leb n most then Some n else None

unfoldable pub has_minus : List ℕ → Bool
has_minus [] = false
has_minus (b ∷ w) = eqb b 45

unfoldable pub numeral : List ℕ → Option ℤ
numeral w = when has_minus w then option_map (λ n. neg_ℤ (pos n)) (word_value 10 (drop 1 w)) else option_map pos (word_value 10 w)

unfoldable pub unsigned : ℕ → Option ℤ → Option ℕ
unsigned most None = None
unsigned most (Some (pos n)) = when leb n most then Some n else None
unsigned most (Some (negsuc n)) = None

unfoldable pub as_integer : Option ℤ → Option ℤ
as_integer None = None
as_integer (Some z) = when ltb (mag z) (2 ^ 31) then Some z else None

abbrev pub with_bits : Option ℕ → Option Float
with_bits o = option_map (of_bits binary32) o

unfoldable pub single : List ℕ → Option Float
single w = when eqb (length w) 8 then with_bits (up_to 0xffff_ffff (word_value 16 w)) else None

abbrev pub pattern : Float → List ℕ
pattern x = last_digits 16 8 (to_bits binary32 x)

-- ---- words

abbrev pub onto : ℕ → List (List ℕ) → List (List ℕ)
onto b [] = (b ∷ []) ∷ []
onto b (w ∷ ws) = (b ∷ w) ∷ ws

unfoldable pub words : List ℕ → List (List ℕ)
words [] = [] ∷ []
words (b ∷ l) = when eqb b 32 then [] ∷ words l else onto b (words l)

unfoldable pub arguments : List ℕ → List (List ℕ)
arguments [] = []
arguments (b ∷ l) = words l

-- ---- lists of numbers

abbrev pub and : {A : Type 0} → A → Option (List A) → Option (List A)
and x None = None
and x (Some xs) = Some (x ∷ xs)

abbrev pub and_integer : Option ℤ → Option (List ℤ) → Option (List ℤ)
and_integer None o = None
and_integer (Some z) o = and z o

unfoldable pub integers : List (List ℕ) → Option (List ℤ)
integers [] = Some []
integers (w ∷ ws) = and_integer (as_integer (numeral w)) (integers ws)

unfoldable pub pairs : List ℕ → Option (List ℕ)
pairs [] = Some []
pairs (a ∷ []) = None
pairs (a ∷ b ∷ w) = when ltb (digit_of a) 16 && ltb (digit_of b) 16 then and (digit_of a * 16 + digit_of b) (pairs w) else None

unfoldable pub bytes : List ℕ → Option (List ℕ)
bytes w =
    when eqb (length w) 0 then None
    else when has_minus w then (when eqb (length w) 1 then Some [] else None)
    else pairs w

abbrev pub Into : {A : Type 0} → Option (List A) → List A → Option ℕ → Type 0
Into {A} o out r = MatchOption r ((xs : List A) → o ≡ Some xs → length out < length xs) (λ n. (n ≤ length out) × (o ≡ Some (take n out)))
