-- A decimal number's text, and what is read from it.
--   minus, point         the codes of - and .
--   is_digit b            b is the code of a digit
--   AllDigits ds         every byte of ds is one
--   with_digits n ds      the number whose digits are those of n and then ds
--   pointed ds           ds after a point; nothing, where there are none
--   Plain text n k       text is digits, and optionally a point and digits, 9 digits in all at most: n / 10^k
--   with_minus s text     text after a minus where s is true
--   Decimal text s n k   text is such a number with its sign, negative where s is true
--   bits_of s n k         the bits of the f32 nearest to n / 10^k with that sign, halves to the even one (`lib.Ieee.round`)
--   Reads text r         what `decimal::read` promises: r is what text is read as: a number's bits, or nothing where it is no number
use Rattle.std.specs.Prelude.{None, Option, Some, ◌≡◌, Bool, true, ◌&&◌, List, [], ◌∷◌, ◌++◌, ℕ, ◌+◌, ◌-◌, ◌*◌, ◌^◌, ◌≤◌, ◌<◌, leb, length}
use lib.Ieee.{binary32, round, to_bits}
use Rattle.whole.specs.Choice.{when◌then◌else◌}

abbrev pub minus : ℕ
minus = 45

abbrev pub point : ℕ
point = 46

unfoldable pub is_digit : ℕ → Bool
is_digit b = leb 48 b && leb b 57

infixr 30 ◌and◌
pub data AllDigits : List ℕ → Type 0 where
  none : AllDigits []
  ◌and◌ : {d : ℕ} {ds : List ℕ} → is_digit d ≡ true → AllDigits ds → AllDigits (d ∷ ds)

unfoldable pub with_digits : ℕ → List ℕ → ℕ
with_digits n [] = n
with_digits n (d ∷ ds) = with_digits (n * 10 + (d - 48)) ds

abbrev pub pointed : List ℕ → List ℕ
pointed [] = []
pointed (d ∷ ds) = point ∷ d ∷ ds

pub record Plain (text : List ℕ) (n k : ℕ) : Type 0 where
  pub front : List ℕ
  pub behind : List ℕ
  pub spelled : text ≡ front ++ pointed behind
  pub digits : AllDigits (front ++ behind)
  pub some : 0 < length front
  pub few : length (front ++ behind) ≤ 9
  pub number : n ≡ with_digits 0 (front ++ behind)
  pub places : k ≡ length behind

abbrev pub with_minus : Bool → List ℕ → List ℕ
with_minus s text = when s then minus ∷ text else text

pub record Decimal (text : List ℕ) (s : Bool) (n k : ℕ) : Type 0 where
  pub rest : List ℕ
  pub spelled : text ≡ with_minus s rest
  pub plain : Plain rest n k

unfoldable pub bits_of : Bool → ℕ → ℕ → ℕ
bits_of s n k = to_bits binary32 (round binary32 s n (10 ^ k))

pub data Reads : List ℕ → Option ℕ → Type 0 where
  number : {text : List ℕ} {s : Bool} {n k : ℕ} → Decimal text s n k → Reads text (Some (bits_of s n k))
  nothing : {text : List ℕ} → ((s : Bool) (n k : ℕ) → Decimal text s n k → ⊥) → Reads text None
