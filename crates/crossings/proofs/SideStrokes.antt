-- The strokes of length 1 on the sides' lines: the values of an upright one are those of the right side's line, of a level one those of the bottom side's.
use mathlib.Core.Path.{◌≡◌, sym, ap, ◌∙◌, subst}
use mathlib.Core.List.{[], ◌∷◌}
use lib.IntN.{ℤ, pos, negsuc, neg_ℤ}
use lib.Signed.{◌<ℤ◌}
use Rattle.whole.proofs.Expressions.{Expr, var, con, ◌⊕◌, ◌⊖◌, ◌⊗◌, neg}
use Rattle.whole.proofs.Polynomials.{ring}
use Rattle.whole.proofs.Naturals.{neg_plus, neg_minus}
use Rattle.whole.proofs.Order.{zarith}
use Rattle.grid.specs.declared.Window.{Window}
use Rattle.grid.specs.Sides.{Side, left, right, bottom, top}
use Rattle.rings.specs.Points.{Point, Line, value, through, On, Real}
use Rattle.rings.specs.Windows.{left_side, right_side, bottom_side, top_side}
use Rattle.rings.proofs.Plane.{nought}
use Rattle.rings.proofs.Windows.{right_real, bottom_real}
use Rattle.limits.specs.Sides.{side_line}
use Rattle.crossings.specs.Tags.{stroke_from, line_of, side_stroke}

abbrev one : Expr
one = con (pos 1)

-- ---- two lines of which the values are opposite
abbrev pub Opposite : Line → Line → Type 0
Opposite h k = (q : Point) → value k q ≡ neg_ℤ (value h q)

pub right_opposite : (c : ℤ) → Opposite (left_side c) (right_side c)
unfolding left_side right_side value
right_opposite c q =
    ring (c ∷ q.X ∷ q.Y ∷ q.W ∷ []) (con (negsuc 0) ⊗ var 1 ⊕ nought ⊗ var 2 ⊕ var 0 ⊗ var 3) (neg (one ⊗ var 1 ⊕ nought ⊗ var 2 ⊕ neg (var 0) ⊗ var 3)) tt

pub top_opposite : (c : ℤ) → Opposite (bottom_side c) (top_side c)
unfolding bottom_side top_side value
top_opposite c q =
    ring (c ∷ q.X ∷ q.Y ∷ q.W ∷ []) (nought ⊗ var 1 ⊕ con (negsuc 0) ⊗ var 2 ⊕ var 0 ⊗ var 3) (neg (nought ⊗ var 1 ⊕ one ⊗ var 2 ⊕ neg (var 0) ⊗ var 3)) tt

opposite_on : (h k : Line) → Opposite h k → (p : Point) → On k p → On h p
opposite_on h k o p e = let n : neg_ℤ (value h p) ≡ pos 0 = sym (o p) ∙ e in omega (zarith, neg_plus (value h p), neg_minus (value h p))

-- ---- the strokes: that on an upright side's line is a stroke of the right side's, that on a level one's of the bottom's
upright_value : (c : ℤ) (p : Point) → value (line_of (stroke_from c (pos 0) c (pos 1))) p ≡ value (right_side c) p
unfolding value through right_side
upright_value c p =
    ring (c ∷ p.X ∷ p.Y ∷ p.W ∷ []) ((nought ⊗ one ⊖ one ⊗ one) ⊗ var 1 ⊕ (one ⊗ var 0 ⊖ var 0 ⊗ one) ⊗ var 2 ⊕ (var 0 ⊗ one ⊖ nought ⊗ var 0) ⊗ var 3)
    (con (negsuc 0) ⊗ var 1 ⊕ nought ⊗ var 2 ⊕ var 0 ⊗ var 3) tt

level_value : (c : ℤ) (p : Point) → value (line_of (stroke_from (pos 0) c (pos 1) c)) p ≡ value (bottom_side c) p
unfolding value through bottom_side
level_value c p =
    ring (c ∷ p.X ∷ p.Y ∷ p.W ∷ []) ((var 0 ⊗ one ⊖ one ⊗ var 0) ⊗ var 1 ⊕ (one ⊗ one ⊖ nought ⊗ one) ⊗ var 2 ⊕ (nought ⊗ var 0 ⊖ var 0 ⊗ one) ⊗ var 3)
    (nought ⊗ var 1 ⊕ one ⊗ var 2 ⊕ neg (var 0) ⊗ var 3) tt

upright_real : (c : ℤ) → Real (line_of (stroke_from c (pos 0) c (pos 1)))
upright_real c = ((right_real c).0, subst (λ (z : ℤ). pos 0 <ℤ z) (sym (upright_value c (right_real c).0)) (right_real c).1)

level_real : (c : ℤ) → Real (line_of (stroke_from (pos 0) c (pos 1) c))
level_real c = ((bottom_real c).0, subst (λ (z : ℤ). pos 0 <ℤ z) (sym (level_value c (bottom_real c).0)) (bottom_real c).1)

module _ (w : Window) where
  pub side_on : (k : Side) (p : Point) → On (side_line w k) p → On (line_of (side_stroke w k)) p
  unfolding side_stroke
  side_on left p e = upright_value w.left p ∙ right_opposite w.left p ∙ ap neg_ℤ e
  side_on right p e = upright_value w.right p ∙ e
  side_on bottom p e = level_value w.bottom p ∙ e
  side_on top p e = level_value w.top p ∙ opposite_on (bottom_side w.top) (top_side w.top) (top_opposite w.top) p e

  pub side_real : (k : Side) → Real (line_of (side_stroke w k))
  unfolding side_stroke
  side_real left = upright_real w.left
  side_real right = upright_real w.right
  side_real bottom = level_real w.bottom
  side_real top = level_real w.top
