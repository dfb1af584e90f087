-- Exact fractions: two whole numbers, the denominator positive, in lowest terms.
--   Divides g z           z is a multiple of g
--   GreatestCommon a b g  what divides g is what divides both a and b
--   Lowest f              the denominator of f is positive, and only 1 divides both its numbers
--   LowestOf n d f        what `lowest_small` and `lowest_signed` promise: f is n/d in lowest terms
--   less_than f g          what `less` answers: whether f is less than g, by the cross products
--   equal_to f g           whether f and g are equal: neither is less than the other. In lowest terms they are then the same two numbers
--   Comparable f g        both cross products of f and g fit 64 bits
use Rattle.std.specs.Prelude.{◌≡◌, Bool, not, ◌||◌, ℕ, ℤ, pos, ◌*ℤ◌, ◌<ℤ◌}
use Rattle.std.specs.Int.Signed.{lt_z}
use Rattle.whole.specs.Within.{Within}
use Rattle.fraction.specs.declared.Fraction.{Fraction}

pub record Divides (g : ℕ) (z : ℤ) : Type 0 where
  pub times : ℤ
  pub is : z ≡ pos g *ℤ times

pub record GreatestCommon (a b g : ℕ) : Type 0 where
  pub both : (k : ℕ) → Divides k (pos g) → Divides k (pos a) × Divides k (pos b)
  pub most : (k : ℕ) → Divides k (pos a) → Divides k (pos b) → Divides k (pos g)

pub record Lowest (f : Fraction) : Type 0 where
  pub positive : pos 0 <ℤ f.den
  pub only_one : (g : ℕ) → Divides g f.num → Divides g f.den → g ≡ 1

pub record LowestOf (n d : ℤ) (f : Fraction) : Type 0 where
  pub lowest : Lowest f
  pub same : f.num *ℤ d ≡ n *ℤ f.den

unfoldable pub less_than : Fraction → Fraction → Bool
less_than f g = lt_z (f.num *ℤ g.den) (g.num *ℤ f.den)

unfoldable pub equal_to : Fraction → Fraction → Bool
equal_to f g = not (less_than f g || less_than g f)

pub record Comparable (f g : Fraction) : Type 0 where
  pub one : Within 9223372036854775807 (f.num *ℤ g.den)
  pub other : Within 9223372036854775807 (g.num *ℤ f.den)
