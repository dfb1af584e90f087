-- What is kept of a stroke turned round: n/d of the way back is 1 − n/d of the way, so that the last fraction becomes the first.
use mathlib.Core.Path.{◌≡◌, subst}
use mathlib.Core.List.{[], ◌∷◌}
use lib.IntN.{ℤ, pos, negsuc, ◌-ℤ◌, ◌*ℤ◌}
use lib.Signed.{◌≤ℤ◌}
use Rattle.whole.proofs.Certificates.{ge, le}
use Rattle.whole.proofs.Expressions.{con, ◌⊕◌, ◌⊖◌, ◌⊗◌, x0, x1, x2, x3}
use Rattle.whole.proofs.Order.{zarith, sub_is}
use Rattle.whole.proofs.Polynomials.{ring}
use Rattle.fraction.specs.declared.Fraction.{Fraction}
use Rattle.fraction.specs.Fraction.{Lowest}
use Rattle.fraction.specs.Rounding.{along, Rounded}
use Rattle.fraction.proofs.Divisors.{divides_mix}
use Rattle.grid.specs.declared.Stroke.{Stroke}
use Rattle.grid.specs.declared.Window.{Window}
use Rattle.spans.specs.Parts.{Time, First, Last}
use Rattle.strokes.specs.Strokes.{KeepsCoordinate, Keeps, PointAt}
use Rattle.turned_round.specs.Laws.{turn_round, one_minus}

-- ---- the way back
pub along_back : (a b n d : ℤ) → along a b n d ≡ along b a (d -ℤ n) d
along_back a b n d = ring (a ∷ b ∷ n ∷ d ∷ []) (x0 ⊗ x3 ⊕ x2 ⊗ (x1 ⊖ x0)) (x1 ⊗ x3 ⊕ (x3 ⊖ x2) ⊗ (x0 ⊖ x1)) tt

keeps_coordinate : {lo hi a b n d : ℤ} → KeepsCoordinate lo hi a b n d → KeepsCoordinate lo hi b a (d -ℤ n) d
keeps_coordinate {lo} {hi} {a} {b} {n} {d} k = record {
  above = subst (λ (x : ℤ). (lo *ℤ d) ≤ℤ x) (along_back a b n d) k.above;
  below = subst (λ (x : ℤ). x ≤ℤ (hi *ℤ d)) (along_back a b n d) k.below;
}

pub time_back : {n d : ℤ} → Time n d → Time (d -ℤ n) d
time_back {n} {d} t = record { den = t.den; low = omega (zarith, sub_is d n, t.high); high = omega (zarith, sub_is d n, t.low) }

pub keeps_back : {w : Window} {s : Stroke} (n d : ℤ) → Keeps w s n d → Keeps w (turn_round s) (d -ℤ n) d
keeps_back n d k = record { time = time_back k.time; x = keeps_coordinate k.x; y = keeps_coordinate k.y }

pub point_back : {s : Stroke} {f : Fraction} {x y : ℤ} → PointAt s f x y → PointAt (turn_round s) (one_minus f) x y
point_back {s} {f} {x} {y} p = record {
  across = subst (λ (z : ℤ). Rounded z f.den x) (along_back s.x1 s.x2 f.num f.den) p.across;
  up = subst (λ (z : ℤ). Rounded z f.den y) (along_back s.y1 s.y2 f.num f.den) p.up;
}

-- ---- 1 − f, in lowest terms as f is
lowest_back : {f : Fraction} → Lowest f → Lowest (one_minus f)
lowest_back {f} l = record {
  positive = l.positive;
  only_one = λ g p q. l.only_one g
      (divides_mix (negsuc 0) (pos 1) p q (ring (f.num ∷ f.den ∷ []) x0 ((x1 ⊖ x0) ⊗ con (negsuc 0) ⊕ x1 ⊗ con (pos 1)) tt)) q;
}

-- ---- the last becomes the first, and the first the last
module _ {K K' : ℤ → ℤ → Type 0} (there : (n d : ℤ) → K n d → K' (d -ℤ n) d) (back : (n d : ℤ) → K' n d → K (d -ℤ n) d) where
  pub first_back : {f : Fraction} → Last K f → First K' (one_minus f)
  first_back {f} l = record {
    lowest = lowest_back l.lowest;
    keeps = there f.num f.den l.keeps;
    least = λ n d k.
        ge (f.num ∷ f.den ∷ n ∷ d ∷ []) ((x1 ⊖ x0) ⊗ x3) (x2 ⊗ x1) (le ((x3 ⊖ x2) ⊗ x1) (x0 ⊗ x3) (l.greatest (d -ℤ n) d (back n d k))) tt;
  }

  pub last_back : {f : Fraction} → First K f → Last K' (one_minus f)
  last_back {f} l = record {
    lowest = lowest_back l.lowest;
    keeps = there f.num f.den l.keeps;
    greatest = λ n d k.
        ge (f.num ∷ f.den ∷ n ∷ d ∷ []) (x2 ⊗ x1) ((x1 ⊖ x0) ⊗ x3) (le (x0 ⊗ x3) ((x3 ⊖ x2) ⊗ x1) (l.least (d -ℤ n) d (back n d k))) tt;
  }
