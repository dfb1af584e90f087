-- The numbers of a ring.
--   CornerNumbers p a b c d   a/b and c/d are x and y of the corner p, as fractions in lowest terms
--   RingNumbers r xs          xs are the numbers of the corners r one after the other, four a corner
use Rattle.std.specs.Prelude.{List, [], ◌∷◌, ℤ}
use Rattle.fraction.specs.Fraction.{LowestOf}
use Rattle.rings.specs.Points.{Point}

pub record CornerNumbers (p : Point) (a b c d : ℤ) : Type 0 where
  pub x : LowestOf p.X p.W (record { num = a; den = b })
  pub y : LowestOf p.Y p.W (record { num = c; den = d })

pub data RingNumbers : List Point → List ℤ → Type 0 where
  no_corner : RingNumbers [] []
  corner : {p : Point} {r : List Point} {a b c d : ℤ} {xs : List ℤ} → CornerNumbers p a b c d → RingNumbers r xs → RingNumbers (p ∷ r) (a ∷ b ∷ c ∷ d ∷ xs)
