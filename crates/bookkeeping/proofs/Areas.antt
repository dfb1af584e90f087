-- Strips share area where each begins before the other ends, from left to right and from bottom to top; there a point half a grid number beyond the
-- later of the two beginnings lies strictly inside both.
use mathlib.Core.Path.{◌≡◌, refl, sym, subst, ◌∙◌}
use mathlib.Core.Bool.{true, false, ◌&&◌, not-eq-not, and-eq-true_iff}
use mathlib.Core.List.{[], ◌∷◌}
use mathlib.Core.Logic.{⊎_elim}
use lib.Ieee.Bits.{is_true}
use lib.IntN.{ℤ, pos, ◌+ℤ◌, ◌-ℤ◌, ◌*ℤ◌}
use lib.Signed.{◌<ℤ◌, lt_z}
use Rattle.whole.proofs.Comparisons.{lt_yes, tt_ff}
use Rattle.whole.proofs.Expressions.{◌⊖◌, ◌⊗◌, x0, x1, x2}
use Rattle.whole.proofs.Naturals.{add_is, mul_is}
use Rattle.whole.proofs.Order.{zarith, <_diff, diff-<, cancel_pos, ≤_total}
use Rattle.whole.proofs.Polynomials.{ring}
use Rattle.grid.specs.Sides.{left, right, bottom, top}
use Rattle.grid.specs.declared.Window.{Window}
use Rattle.racks.specs.Areas.{shares_area}
use Rattle.racks.proofs.Common.{turned}
use Rattle.rings.specs.Lists.{∅, ◌◂◌}
use Rattle.rings.specs.Points.{Point}
use Rattle.rings.proofs.Windows.{left_value, right_value, bottom_value, top_value}
use Rattle.bookkeeping.specs.Areas.{StrictlyIn, SharesAPoint, TouchingSharesNone}

-- ---- the four tests
record Overlap (v w : Window) : Type 0 where
  pub left : v.left <ℤ w.right
  pub right : w.left <ℤ v.right
  pub bottom : v.bottom <ℤ w.top
  pub top : w.bottom <ℤ v.top

overlap : (v w : Window) → shares_area v w ≡ true → Overlap v w
unfolding shares_area
overlap v w e =
    let p = (and-eq-true_iff (lt_z v.left w.right && lt_z w.left v.right && lt_z v.bottom w.top) (lt_z w.bottom v.top)).0 e in
    let q = (and-eq-true_iff (lt_z v.left w.right && lt_z w.left v.right) (lt_z v.bottom w.top)).0 p.0 in
    let r = (and-eq-true_iff (lt_z v.left w.right) (lt_z w.left v.right)).0 q.0 in
    record { left = lt_yes refl refl r.0; right = lt_yes refl refl r.1; bottom = lt_yes refl refl q.1; top = lt_yes refl refl p.1 }

overlapping : (v w : Window) → Overlap v w → shares_area v w ≡ true
unfolding shares_area
overlapping v w h =
    simp (
      is_true (lt_z v.left w.right) h.left.lt,
      is_true (lt_z w.left v.right) h.right.lt,
      is_true (lt_z v.bottom w.top) h.bottom.lt,
      is_true (lt_z w.bottom v.top) h.top.lt,
    )

not_overlapping : (v w : Window) → (Overlap v w → ⊥) → shares_area v w ≡ false
not_overlapping v w h = not-eq-not.0 (λ e. h (overlap v w e))

-- whichever is named first
pub shares_turned : (v w : Window) → shares_area v w ≡ false → shares_area w v ≡ false
shares_turned v w e = turned w v ∙ e

pub touching_shares_none : TouchingSharesNone
touching_shares_none v w left b = not_overlapping v w λ h. omega zarith
touching_shares_none v w right b = not_overlapping v w λ h. omega zarith
touching_shares_none v w bottom b = not_overlapping v w λ h. omega zarith
touching_shares_none v w top b = not_overlapping v w λ h. omega zarith

-- ---- a point strictly inside both, its two coordinates alike
record Between (a b c d x : ℤ) : Type 0 where
  pub first_low : (a *ℤ pos 2) <ℤ x
  pub second_low : (b *ℤ pos 2) <ℤ x
  pub first_high : x <ℤ (c *ℤ pos 2)
  pub second_high : x <ℤ (d *ℤ pos 2)

between : (a b c d : ℤ) → a <ℤ c → a <ℤ d → b <ℤ c → b <ℤ d → (x : ℤ) × Between a b c d x
between a b c d p q r s = ⊎_elim
    (λ h. (b *ℤ pos 2 +ℤ pos 1, omega (zarith, add_is (b *ℤ pos 2) (pos 1), mul_is a (pos 2), mul_is b (pos 2), mul_is c (pos 2), mul_is d (pos 2))))
    (λ h. (a *ℤ pos 2 +ℤ pos 1, omega (zarith, add_is (a *ℤ pos 2) (pos 1), mul_is a (pos 2), mul_is b (pos 2), mul_is c (pos 2), mul_is d (pos 2))))
    (≤_total a b)

record Strictly (w : Window) (p : Point) : Type 0 where
  pub left : (w.left *ℤ p.W) <ℤ p.X
  pub right : p.X <ℤ (w.right *ℤ p.W)
  pub bottom : (w.bottom *ℤ p.W) <ℤ p.Y
  pub top : p.Y <ℤ (w.top *ℤ p.W)

into_lines : (w : Window) (p : Point) → Strictly w p → StrictlyIn w p
into_lines w p h =
    over (left_value w.left p) h.left ◂ over (right_value w.right p) h.right
    ◂ over (bottom_value w.bottom p) h.bottom ◂ over (top_value w.top p) h.top ◂ ∅
  where
    over : {z x y : ℤ} → z ≡ y -ℤ x → x <ℤ y → pos 0 <ℤ z
    over e l = subst (λ z. pos 0 <ℤ z) (sym e) (<_diff l)

from_lines : (w : Window) (p : Point) → StrictlyIn w p → Strictly w p
from_lines w p (l ◂ (r ◂ (b ◂ (t ◂ ∅)))) = record {
  left = less (left_value w.left p) l;
  right = less (right_value w.right p) r;
  bottom = less (bottom_value w.bottom p) b;
  top = less (top_value w.top p) t;
}
  where
    less : {z x y : ℤ} → z ≡ y -ℤ x → pos 0 <ℤ z → x <ℤ y
    less e l = diff-< (subst (λ z. pos 0 <ℤ z) e l)

-- a number over W between a and b: a is less than b
inner : {a b x W : ℤ} → pos 0 <ℤ W → (a *ℤ W) <ℤ x → x <ℤ (b *ℤ W) → a <ℤ b
inner {a} {b} {x} {W} h l r =
    let d : (a *ℤ W) <ℤ (b *ℤ W) = omega zarith in
    diff-< (cancel_pos h (subst (λ z. pos 0 <ℤ z) (ring (a ∷ b ∷ W ∷ []) (x1 ⊗ x2 ⊖ x0 ⊗ x2) (x2 ⊗ (x1 ⊖ x0)) tt) (<_diff d)))

pub shares_a_point : SharesAPoint
shares_a_point v w hv hw = record {
  yes = λ e.
      let o = overlap v w e in
      let x = between v.left w.left v.right w.right hv.wide o.left o.right hw.wide in
      let y = between v.bottom w.bottom v.top w.top hv.tall o.bottom o.top hw.tall in
      let p : Point = record { X = x.0; Y = y.0; W = pos 2 } in
      record {
        point = p;
        proper = record { lt = tt };
        in_one = into_lines v p (record { left = x.1.first_low; right = x.1.first_high; bottom = y.1.first_low; top = y.1.first_high });
        in_other = into_lines w p (record { left = x.1.second_low; right = x.1.second_high; bottom = y.1.second_low; top = y.1.second_high });
      };
  no = λ e h.
      let a = from_lines v h.point h.in_one in
      let b = from_lines w h.point h.in_other in
      tt_ff (sym (overlapping v w (record {
        left = inner h.proper a.left b.right;
        right = inner h.proper b.left a.right;
        bottom = inner h.proper a.bottom b.top;
        top = inner h.proper b.bottom a.top;
      })) ∙ e);
}
