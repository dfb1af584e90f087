-- What is put into a page.
--   Put before after at end word   word stands in the page from at to end; all else is as it was, and the page is as long
--   ascii t      the bytes of a text
--   digits k n   the decimal digits of n, if they are k at the most
--   natural n    the decimal digits of a number below 2 ^ 64, with no zero before them
--   integer z    the same with a sign: a minus where z is negative
--   refusal n p  the words of a refusal: its number and its place
--   big_endian n  the four bytes of a number below 2 ^ 32, the highest first
use Rattle.std.specs.Prelude.{◌≡◌, List, [], ◌∷◌, ◌++◌, ℕ, zero, suc, ◌+◌, ◌/◌, ◌%◌, ◌^◌, ◌≤◌, ltb, ℤ, pos, negsuc, length, take, drop}
use Prim.Native.Char.{code}
use Prim.Native.String as Text
use Rattle.whole.specs.Choice.{when◌then◌else◌}

pub record Put (before after : List ℕ) (at end : ℕ) (word : List ℕ) : Type 0 where
  pub text : take end after ≡ take at before ++ word
  pub rest : drop end after ≡ drop end before
  pub ends : end ≡ at + length word
  pub fits : end ≤ length after
  pub same : length after ≡ length before

abbrev pub ascii : Text.String → List ℕ
ascii Text.[] = []
ascii (Text.◌∷◌ c t) = code c ∷ ascii t

unfoldable pub digits : ℕ → ℕ → List ℕ
digits zero n = []
digits (suc k) n = when ltb n 10 then (48 + n) ∷ [] else digits k (n / 10) ++ (48 + n % 10) ∷ []

unfoldable pub natural : ℕ → List ℕ
natural n = digits 20 n

unfoldable pub integer : ℤ → List ℕ
integer (pos n) = natural n
integer (negsuc n) = 45 ∷ natural (suc n)

abbrev pub big_endian : ℕ → List ℕ
big_endian n = n / 2 ^ 24 ∷ n / 2 ^ 16 % 256 ∷ n / 2 ^ 8 % 256 ∷ n % 256 ∷ []

abbrev pub refusal : ℕ → ℕ → List ℕ
refusal number place = ascii "refused " ++ (natural number ++ ascii " place " ++ natural place)
