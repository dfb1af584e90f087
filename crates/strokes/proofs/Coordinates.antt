-- The way of one coordinate from a to b: plainly beyond lo or hi, plainly between them, and by the two conditions of its axis.
use mathlib.Core.List.{[], ◌∷◌}
use lib.IntN.{ℤ, pos, neg_ℤ, ◌-ℤ◌, ◌*ℤ◌}
use lib.Signed.{◌≤ℤ◌, ◌<ℤ◌}
use Rattle.whole.proofs.Certificates.{ge, clash, po, nn, le, ◌⊞◌, ◌⊠◌}
use Rattle.whole.proofs.Expressions.{Expr, var, con, ◌⊕◌, ◌⊖◌, ◌⊗◌, neg}
use Rattle.whole.proofs.Order.{next-≤}
use Rattle.spans.specs.Parts.{Time}
use Rattle.strokes.specs.Strokes.{KeepsCoordinate}

-- a bound, the way's two ends, and a fraction
abbrev L : Expr
L = var 0

abbrev A : Expr
A = var 1

abbrev B : Expr
B = var 2

abbrev N : Expr
N = var 3

abbrev D : Expr
D = var 4

-- along a b n d
abbrev X : Expr
X = A ⊗ D ⊕ N ⊗ (B ⊖ A)

abbrev one : Expr
one = con (pos 1)

module _ {lo hi a b n d : ℤ} where
  pub not_below : a <ℤ lo → b <ℤ lo → Time n d → KeepsCoordinate lo hi a b n d → ⊥
  not_below ha hb t k = clash (lo ∷ a ∷ b ∷ n ∷ d ∷ [])
      (le N D t.high ⊠ le (A ⊕ one) L (next-≤ ha) ⊞ nn N t.low ⊠ le (B ⊕ one) L (next-≤ hb) ⊞ po D t.den ⊞ le (L ⊗ D) X k.above) tt

  pub not_above : hi <ℤ a → hi <ℤ b → Time n d → KeepsCoordinate lo hi a b n d → ⊥
  not_above ha hb t k = clash (hi ∷ a ∷ b ∷ n ∷ d ∷ [])
      (le N D t.high ⊠ le (L ⊕ one) A (next-≤ ha) ⊞ nn N t.low ⊠ le (L ⊕ one) B (next-≤ hb) ⊞ po D t.den ⊞ le X (L ⊗ D) k.below) tt

  pub all_between : lo ≤ℤ a → lo ≤ℤ b → a ≤ℤ hi → b ≤ℤ hi → Time n d → KeepsCoordinate lo hi a b n d
  all_between la lb ha hb t = record {
    above = ge (lo ∷ a ∷ b ∷ n ∷ d ∷ []) (L ⊗ D) X (le N D t.high ⊠ le L A la ⊞ nn N t.low ⊠ le L B lb) tt;
    below = ge (hi ∷ a ∷ b ∷ n ∷ d ∷ []) X (L ⊗ D) (le N D t.high ⊠ le A L ha ⊞ nn N t.low ⊠ le B L hb) tt;
  }

  -- the condition of the lower side, −(b − a) t ≤ a − lo, and that of the upper, (b − a) t ≤ hi − a
  pub above_low : KeepsCoordinate lo hi a b n d → (neg_ℤ (b -ℤ a) *ℤ n) ≤ℤ ((a -ℤ lo) *ℤ d)
  above_low k = ge (lo ∷ a ∷ b ∷ n ∷ d ∷ []) (neg (B ⊖ A) ⊗ N) ((A ⊖ L) ⊗ D) (le (L ⊗ D) X k.above) tt

  pub below_high : KeepsCoordinate lo hi a b n d → ((b -ℤ a) *ℤ n) ≤ℤ ((hi -ℤ a) *ℤ d)
  below_high k = ge (hi ∷ a ∷ b ∷ n ∷ d ∷ []) ((B ⊖ A) ⊗ N) ((L ⊖ A) ⊗ D) (le X (L ⊗ D) k.below) tt

  pub both_sides : (neg_ℤ (b -ℤ a) *ℤ n) ≤ℤ ((a -ℤ lo) *ℤ d) → ((b -ℤ a) *ℤ n) ≤ℤ ((hi -ℤ a) *ℤ d)
      → KeepsCoordinate lo hi a b n d
  both_sides l h = record {
    above = ge (lo ∷ a ∷ b ∷ n ∷ d ∷ []) (L ⊗ D) X (le (neg (B ⊖ A) ⊗ N) ((A ⊖ L) ⊗ D) l) tt;
    below = ge (hi ∷ a ∷ b ∷ n ∷ d ∷ []) X (L ⊗ D) (le ((B ⊖ A) ⊗ N) ((L ⊖ A) ⊗ D) h) tt;
  }
