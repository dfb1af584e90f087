-- Digits, and the numbers that they are.
--   between lo hi b      b is from lo to hi
--   digit_of b            the value of the byte b as a digit, letters from 10 on, large or small; 16 where it is none
--   value_from base n w   the number that n becomes by the digits w, in a base; none where a byte of w is no digit of it
--   word_value base w     the number that the word w is, one digit or more
use Rattle.std.specs.Prelude.{Bool, ◌&&◌, List, [], ◌∷◌, ℕ, ◌+◌, ◌*◌, ◌-◌, leb, ltb, Option, None, Some}
use Rattle.whole.specs.Choice.{when◌then◌else◌}

unfoldable pub between : ℕ → ℕ → ℕ → Bool
between lo hi b = leb lo b && leb b hi

unfoldable pub digit_of : ℕ → ℕ
digit_of b =
    when between 48 57 b then b - 48
    else when between 65 70 b then b - 65 + 10
    else when between 97 102 b then b - 97 + 10
    else 16

unfoldable pub value_from : ℕ → ℕ → List ℕ → Option ℕ
value_from base n [] = Some n
value_from base n (b ∷ w) = when ltb (digit_of b) base then value_from base (n * base + digit_of b) w else None

unfoldable pub word_value : ℕ → List ℕ → Option ℕ
word_value base [] = None
word_value base (b ∷ w) = value_from base 0 (b ∷ w)
