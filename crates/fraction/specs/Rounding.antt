-- A fractional coordinate to the nearest grid number.
--   along a b n d   d times the coordinate at n/d of the way from a to b
--   Rounded x d r   what `rounded` promises: r is x/d rounded to the nearest whole number, a half to the even one, as at intake
use Rattle.std.specs.Prelude.{ℤ, ◌+ℤ◌, ◌-ℤ◌, ◌*ℤ◌}
use Rattle.whole.specs.Rounding.{Rounds, to_even}

abbrev pub along : ℤ → ℤ → ℤ → ℤ → ℤ
along a b n d = a *ℤ d +ℤ n *ℤ (b -ℤ a)

abbrev pub Rounded : ℤ → ℤ → ℤ → Type 0
Rounded x d r = Rounds to_even x d r
