-- A window's sides as lines: they are real, and inside all four is in the closed window.
use mathlib.Core.Path.{◌≡◌, sym, subst}
use mathlib.Core.List.Permᴰ
use mathlib.Core.List.{List, [], ◌∷◌, Permᴰ}
use mathlib.Core.Logic.{◌↔◌}
use mathlib.Core.Option.{Option}
use lib.IntN.{ℤ, pos, negsuc, ◌-ℤ◌, ◌*ℤ◌}
use lib.Signed.{◌≤ℤ◌}
use Rattle.whole.proofs.Expressions.{Expr, var, con, ◌⊕◌, ◌⊖◌, ◌⊗◌, neg, Env}
use Rattle.whole.proofs.Polynomials.{ring}
use Rattle.whole.proofs.Order.{≤_diff, diff-≤}
use Rattle.whole.proofs.Certificates.{gt, nat⁺}
use Rattle.rings.specs.Lists.{All, ∅, ◌◂◌}
use Rattle.rings.specs.Points.{Point, Line, value, Real}
use Rattle.rings.specs.Rings.{Ring}
use Rattle.rings.specs.Cuts.{Inside, Result, Agree}
use Rattle.rings.specs.Windows.{left_side, right_side, bottom_side, top_side, side_lines, InWindow}
use Rattle.rings.proofs.Plane.{nought}
use Rattle.rings.proofs.Orders.{all_order, any_order}

abbrev one : Expr
one = con (pos 1)

abbrev minus_one : Expr
minus_one = con (negsuc 0)

-- ---- the value of each side at a point, X Y W being the variables 1 to 3
module _ (z : ℤ) (p : Point) where
  abbrev ρ : Env
  ρ = z ∷ p.X ∷ p.Y ∷ p.W ∷ []

  abbrev value_by : Expr → Expr → Expr → Expr
  value_by a b c = a ⊗ var 1 ⊕ b ⊗ var 2 ⊕ c ⊗ var 3

  pub left_value : value (left_side z) p ≡ p.X -ℤ z *ℤ p.W
  unfolding left_side value
  left_value = ring ρ (value_by one nought (neg (var 0))) (var 1 ⊖ var 0 ⊗ var 3) tt

  pub right_value : value (right_side z) p ≡ z *ℤ p.W -ℤ p.X
  unfolding right_side value
  right_value = ring ρ (value_by minus_one nought (var 0)) (var 0 ⊗ var 3 ⊖ var 1) tt

  pub bottom_value : value (bottom_side z) p ≡ p.Y -ℤ z *ℤ p.W
  unfolding bottom_side value
  bottom_value = ring ρ (value_by nought one (neg (var 0))) (var 2 ⊖ var 0 ⊗ var 3) tt

  pub top_value : value (top_side z) p ≡ z *ℤ p.W -ℤ p.Y
  unfolding top_side value
  top_value = ring ρ (value_by nought minus_one (var 0)) (var 0 ⊗ var 3 ⊖ var 2) tt

-- ---- each side is positive far inside
module _ (z : ℤ) where
  abbrev far : ℤ → ℤ → Point
  far x y = record { X = x; Y = y; W = pos 0 }

  pub left_real : Real (left_side z)
  unfolding left_side value
  left_real = (far (pos 1) (pos 0), gt (z ∷ []) nought (one ⊗ one ⊕ nought ⊗ nought ⊕ neg (var 0) ⊗ nought) (nat⁺ 0) tt)

  pub right_real : Real (right_side z)
  unfolding right_side value
  right_real = (far (negsuc 0) (pos 0), gt (z ∷ []) nought (minus_one ⊗ minus_one ⊕ nought ⊗ nought ⊕ var 0 ⊗ nought) (nat⁺ 0) tt)

  pub bottom_real : Real (bottom_side z)
  unfolding bottom_side value
  bottom_real = (far (pos 0) (pos 1), gt (z ∷ []) nought (nought ⊗ nought ⊕ one ⊗ one ⊕ neg (var 0) ⊗ nought) (nat⁺ 0) tt)

  pub top_real : Real (top_side z)
  unfolding top_side value
  top_real = (far (pos 0) (negsuc 0), gt (z ∷ []) nought (nought ⊗ nought ⊕ minus_one ⊗ minus_one ⊕ var 0 ⊗ nought) (nat⁺ 0) tt)

module _ (l b r t : ℤ) where
  pub sides_real : All Real (side_lines l b r t)
  sides_real = left_real l ◂ right_real r ◂ bottom_real b ◂ top_real t ◂ ∅

  pub in_window : (p : Point) → Inside (side_lines l b r t) p ↔ InWindow l b r t p
  in_window p = (to, λ w. from (left_value l p) w.left ◂ from (right_value r p) w.right ◂ from (bottom_value b p) w.bottom ◂ from (top_value t p) w.top ◂ ∅)
    where
      from : {v x y : ℤ} → v ≡ y -ℤ x → x ≤ℤ y → pos 0 ≤ℤ v
      from e h = subst (λ z. pos 0 ≤ℤ z) (sym e) (≤_diff h)

      into : {v x y : ℤ} → v ≡ y -ℤ x → pos 0 ≤ℤ v → x ≤ℤ y
      into e h = diff-≤ (subst (λ z. pos 0 ≤ℤ z) e h)

      to : Inside (side_lines l b r t) p → InWindow l b r t p
      to (left ◂ (right ◂ (bottom ◂ (top ◂ ∅)))) = record {
        left = into (left_value l p) left;
        right = into (right_value r p) right;
        bottom = into (bottom_value b p) bottom;
        top = into (top_value t p) top;
      }

  -- the sides in any two orders
  pub sides_agree : {hs ks : List Line} {o : List Point} {x y : Option (List Point)} → Permᴰ (side_lines l b r t) hs → Permᴰ (side_lines l b r t) ks
      → Ring o → Result hs o x → Result ks o y → Agree x y
  sides_agree d e g = any_order (Permᴰ.trans (Permᴰ.symm d) e) (all_order d sides_real) g
