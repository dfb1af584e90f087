-- A fraction x/d, d positive, to the nearest whole number. Only a number n and a half has two nearest ones, n and n + 1; there a rule decides.
--   Nearest x d r     r is a whole number nearest to x/d
--   Rule              says of each n whether n and a half goes up; else it goes down
--   Rounds up x d r   r is x/d rounded to the nearest whole number, halves by the rule `up`
--   to_even            the rule that a half goes to the even one of its two whole numbers: up where n is odd
use Rattle.std.specs.Prelude.{◌≡◌, Bool, true, false, ◌%◌, eqb, ℤ, pos, nat_abs, ◌+ℤ◌, ◌-ℤ◌, ◌*ℤ◌, ◌≤ℤ◌}

pub record Nearest (x d r : ℤ) : Type 0 where
  pub low : (pos 2 *ℤ (r *ℤ d)) ≤ℤ (pos 2 *ℤ x +ℤ d)
  pub high : (pos 2 *ℤ x) ≤ℤ (pos 2 *ℤ (r *ℤ d) +ℤ d)

abbrev pub Rule : Type 0
Rule = ℤ → Bool

-- where x/d is r − 1 and a half, the rule sends that half up; where it is r and a half, the rule sends it down
pub record Rounds (up : Rule) (x d r : ℤ) : Type 0 where
  pub nearest : Nearest x d r
  pub above : pos 2 *ℤ (r *ℤ d) ≡ pos 2 *ℤ x +ℤ d → up (r -ℤ pos 1) ≡ true
  pub below : pos 2 *ℤ x ≡ pos 2 *ℤ (r *ℤ d) +ℤ d → up r ≡ false

unfoldable pub to_even : Rule
to_even n = eqb (nat_abs n % 2) 1
