-- Numbers of a ring in an output, before and after they are written there.
--   WroteFraction n d k before after   n/d in lowest terms is written at place k, the numerator before the denominator
--   Wrote r before after               the numbers of the corners r are written from the front, and the rest is as it was
--   StartedNumbers r xs                xs are the numbers of the ring r, started
--   GaveRing r n before after          what `writing::give_ring` and `uncut::give_whole` promise: the n numbers of the ring r, started, are
--                                      given into an output
use Rattle.std.specs.Prelude.{◌≡◌, List, [], ◌∷◌, ℕ, ℤ}
use Rattle.std.proofs.lemmas.List.Edits.{sets}
use Rattle.fraction.specs.Fraction.{LowestOf}
use Rattle.fraction.specs.declared.Fraction.{Fraction}
use Rattle.grid.specs.Calls.{written, GaveNumbers}
use Rattle.rings.specs.Lists.{Turned}
use Rattle.rings.specs.Points.{Point}
use Rattle.rings.specs.Rings.{Starts}
use Rattle.writing.specs.Numbers.{RingNumbers}

pub record WroteFraction (n d : ℤ) (k : ℕ) (before after : List ℤ) : Type 0 where
  pub fraction : Fraction
  pub lowest : LowestOf n d fraction
  pub output : after ≡ sets before k (fraction.num ∷ fraction.den ∷ [])

pub record Wrote (r : List Point) (before after : List ℤ) : Type 0 where
  pub numbers : List ℤ
  pub are : RingNumbers r numbers
  pub output : after ≡ written numbers before

pub record StartedNumbers (r : List Point) (xs : List ℤ) : Type 0 where
  pub corners : List Point
  pub turned : Turned r corners
  pub starts : Starts corners
  pub are : RingNumbers corners xs

abbrev pub GaveRing : List Point → ℕ → List ℤ → List ℤ → Type 0
GaveRing r = GaveNumbers (StartedNumbers r)
