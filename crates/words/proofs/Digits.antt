-- Which bytes are digits, by tests on their numbers; and that the library counts them alike.
use mathlib.Core.Path.{◌≡◌, sym, subst, ◌∙◌}
use native.Mathlib.Nat.{lt_of_lt_of_le}
use native.Mathlib.Omega.{arith}
use mathlib.Core.Bool.{true, false}
use Prim.Native.Nat.{ℕ, ◌≤◌, ◌<◌}
use borrow.Author.Tests.{le-leb, lt-leb}
use Rattle.std.specs.Prelude.{Option, None, Some, MatchOption, SomeIff}
use Rattle.std.specs.Char.{digit_value}
use Rattle.words.specs.Digits.{between, digit_of}

pub inside : (lo hi b : ℕ) → lo ≤ b → b ≤ hi → between lo hi b ≡ true
unfolding between
inside lo hi b l h = simp (le-leb lo b l, le-leb b hi h)

pub below : (lo hi b : ℕ) → b < lo → between lo hi b ≡ false
unfolding between
below lo hi b h = simp (lt-leb lo b h)

pub above : (lo hi b : ℕ) → lo ≤ b → hi < b → between lo hi b ≡ false
unfolding between
above lo hi b l h = simp (le-leb lo b l, lt-leb b hi h)

small : (b : ℕ) → digit_value b < 16 → digit_of b ≡ digit_value b
unfolding digit_of between
small b h = grind arith

no_decimal : (b : ℕ) → 16 ≤ digit_value b → between 48 57 b ≡ false
unfolding between
no_decimal b h = grind arith

no_large_letter : (b : ℕ) → 16 ≤ digit_value b → between 65 70 b ≡ false
unfolding between
no_large_letter b h = grind arith

no_small_letter : (b : ℕ) → 16 ≤ digit_value b → between 97 102 b ≡ false
unfolding between
no_small_letter b h = grind arith

large : (b : ℕ) → 16 ≤ digit_value b → digit_of b ≡ 16
unfolding digit_of
large b h = simp (no_decimal b h, no_large_letter b h, no_small_letter b h)

not_below : (value digit base : ℕ) → (value < 16 → digit ≡ value) → (16 ≤ value → digit ≡ 16) → base ≤ 16 → (value < base → ⊥) → base ≤ digit
not_below value digit base s l m h = grind arith

-- the library's digit, if it is one of a base to 16, is ours
pub same_digit : (o : Option ℕ) (b base : ℕ) → base ≤ 16 → SomeIff o (digit_value b < base) (digit_value b)
    → MatchOption o (base ≤ digit_of b) (λ d. (d ≡ digit_of b) × (d < base))
same_digit None b base m h = not_below (digit_value b) (digit_of b) base (small b) (large b) m h
same_digit (Some d) b base m h = let same = small b (lt_of_lt_of_le h.0 m) in (h.1 ∙ sym same, subst (λ (n : ℕ). n < base) (sym h.1) h.0)
