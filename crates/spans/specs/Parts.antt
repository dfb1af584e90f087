-- What is kept of a stroke. K n d says that the stroke's point at the fraction n/d of its way is kept.
--   Time n d          n/d is a fraction from 0 to 1
--   First K f         f is the least fraction that is kept, in lowest terms
--   Last K f          f is the greatest fraction that is kept, in lowest terms
--   zeroth, unit      0/1 and 1/1
--   Part K k f g      k says whether some fraction is kept; f and g are the first and the last that is, or 0/1 both
use Rattle.std.specs.Prelude.{◌≡◌, Bool, true, false, ℤ, pos, ◌*ℤ◌, ◌≤ℤ◌, ◌<ℤ◌}
use Rattle.fraction.specs.declared.Fraction.{Fraction}
use Rattle.fraction.specs.Fraction.{Lowest}

pub record Time (n d : ℤ) : Type 0 where
  pub den : pos 0 <ℤ d
  pub low : pos 0 ≤ℤ n
  pub high : n ≤ℤ d

pub record First (K : ℤ → ℤ → Type 0) (f : Fraction) : Type 0 where
  pub lowest : Lowest f
  pub keeps : K f.num f.den
  pub least : (n d : ℤ) → K n d → (f.num *ℤ d) ≤ℤ (n *ℤ f.den)

pub record Last (K : ℤ → ℤ → Type 0) (f : Fraction) : Type 0 where
  pub lowest : Lowest f
  pub keeps : K f.num f.den
  pub greatest : (n d : ℤ) → K n d → (n *ℤ f.den) ≤ℤ (f.num *ℤ d)

abbrev pub zeroth : Fraction
zeroth = record { num = pos 0; den = pos 1 }

abbrev pub unit : Fraction
unit = record { num = pos 1; den = pos 1 }

pub record Part (K : ℤ → ℤ → Type 0) (k : Bool) (f g : Fraction) : Type 0 where
  pub keeps : (n d : ℤ) → K n d → k ≡ true
  pub first : k ≡ true → First K f
  pub last : k ≡ true → Last K g
  pub missed : k ≡ false → (f ≡ zeroth) × (g ≡ zeroth)
