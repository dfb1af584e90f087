-- The side that fixed an end: it is the same for two windows whose sides fix that end alike, as do sides that the stroke does not cross there.
use mathlib.Core.Path.{◌≡◌}
use mathlib.Core.List.{[], ◌∷◌}
use mathlib.Core.Logic.{◌↔◌}
use Prim.Native.Nat.{ℕ}
use lib.IntN.{ℤ, pos, ◌*ℤ◌}
use lib.Signed.{◌≤ℤ◌}
use Rattle.whole.proofs.Certificates.{eq_by, eqn}
use Rattle.whole.proofs.Expressions.{con, ◌⊕◌, ◌⊖◌, ◌⊗◌, neg, x0, x1, x2, x3, var}
use Rattle.whole.proofs.Naturals.{neg_plus, neg_minus}
use Rattle.whole.proofs.Order.{zarith}
use Rattle.fraction.specs.declared.Fraction.{Fraction}
use Rattle.fraction.specs.Rounding.{along}
use Rattle.grid.specs.declared.Stroke.{Stroke}
use Rattle.grid.specs.declared.Window.{Window}
use Rattle.grid.specs.Sides.{left, right}
use Rattle.rings.specs.Lists.{Each, none, ◌and◌}
use Rattle.spans.specs.Sides.{Condition, Inward, Outward, Fixes, SideNamed}
use Rattle.spans.proofs.Sides.{first_each}
use Rattle.strokes.specs.Sides.{dx, condition}

pub itself : {A : Type 0} → A ↔ A
itself = (λ x. x, λ x. x)

-- ---- the same side is named
module _ {own : Type 0} {P : Condition → Type 0} {l r b t l' r' : Condition} where
  pub named_as : {k : ℕ} → P l ↔ P l' → P r ↔ P r'
      → SideNamed own P (l ∷ r ∷ b ∷ t ∷ []) k → SideNamed own P (l' ∷ r' ∷ b ∷ t ∷ []) k
  named_as hl hr h = record { remains = h.remains; fixed = λ n. first_each each (λ _ _ e. e.0) (λ _ _ e. e.1) (h.fixed n) }
    where
      each : Each (λ c d. P c ↔ P d) (l ∷ r ∷ b ∷ t ∷ []) (l' ∷ r' ∷ b ∷ t ∷ [])
      each = ◌and◌ hl (◌and◌ hr (◌and◌ itself (◌and◌ itself none)))

-- ---- where a side fixes an end the stroke is on its line
module _ {Towards : ℤ → Type 0} {f : Fraction} (w : Window) (s : Stroke) where
  pub at_left : Fixes Towards f (condition w s left) → along s.x1 s.x2 f.num f.den ≡ w.left *ℤ f.den
  at_left h = eq_by (s.x1 ∷ s.x2 ∷ f.num ∷ f.den ∷ w.left ∷ []) (x0 ⊗ x3 ⊕ x2 ⊗ (x1 ⊖ x0)) (var 4 ⊗ x3)
      (eqn (neg (con (pos 1))) (neg (x1 ⊖ x0) ⊗ x2) ((x0 ⊖ var 4) ⊗ x3) h.on) tt

  pub at_right : Fixes Towards f (condition w s right) → along s.x1 s.x2 f.num f.den ≡ w.right *ℤ f.den
  at_right h = eq_by (s.x1 ∷ s.x2 ∷ f.num ∷ f.den ∷ w.right ∷ []) (x0 ⊗ x3 ⊕ x2 ⊗ (x1 ⊖ x0)) (var 4 ⊗ x3)
      (eqn (con (pos 1)) ((x1 ⊖ x0) ⊗ x2) ((var 4 ⊖ x0) ⊗ x3) h.on) tt

-- ---- a stroke that does not go to the left crosses no right side inward and no left side outward; one that does not go to the right the other way round
module _ {f : Fraction} (w u : Window) (s : Stroke) where
  pub right_not_in : pos 0 ≤ℤ dx s → Fixes Inward f (condition w s right) ↔ Fixes Inward f (condition u s right)
  right_not_in h = (λ i. absurd (omega (zarith, i.crosses)), λ i. absurd (omega (zarith, i.crosses)))

  pub left_not_out : pos 0 ≤ℤ dx s → Fixes Outward f (condition w s left) ↔ Fixes Outward f (condition u s left)
  left_not_out h = (
    λ i. absurd (omega (zarith, i.crosses, neg_plus (dx s), neg_minus (dx s))),
    λ i. absurd (omega (zarith, i.crosses, neg_plus (dx s), neg_minus (dx s))),
  )

  pub left_not_in : dx s ≤ℤ pos 0 → Fixes Inward f (condition w s left) ↔ Fixes Inward f (condition u s left)
  left_not_in h = (
    λ i. absurd (omega (zarith, i.crosses, neg_plus (dx s), neg_minus (dx s))),
    λ i. absurd (omega (zarith, i.crosses, neg_plus (dx s), neg_minus (dx s))),
  )

  pub right_not_out : dx s ≤ℤ pos 0 → Fixes Outward f (condition w s right) ↔ Fixes Outward f (condition u s right)
  right_not_out h = (λ i. absurd (omega (zarith, i.crosses)), λ i. absurd (omega (zarith, i.crosses)))
