-- Where a stroke meets the line of a side: the fraction is (side − from) / (to − from), with the sign moved so that the denominator is positive.
use mathlib.Core.Path.{◌≡◌, refl, sym, ap}
use mathlib.Core.Logic.{⊎_elim}
use mathlib.Core.List.{List, [], ◌∷◌}
use Prim.Native.Nat.{ℕ, zero, suc, ◌<◌}
use native.Mathlib.Omega.{arith}
use lib.IntN.{ℤ, pos, neg_ℤ, ◌-ℤ◌}
use lib.Signed.{◌≤ℤ◌, ◌<ℤ◌}
use Rattle.whole.specs.Within.{Within}
use Rattle.whole.proofs.Certificates.{clash, eq, po, le, ◌⊞◌, ◌⊠◌}
use Rattle.whole.proofs.Expressions.{Env, var, con, ◌⊕◌, ◌⊖◌, ◌⊗◌, x0, x1, x2}
use Rattle.whole.proofs.Order.{zarith, sub_is, ≤_antisym, ≤_total, <_diff, diff-≤}
use Rattle.whole.proofs.Polynomials.{ring}
use Rattle.whole.proofs.Ranges.{Bounds, within}
use Rattle.fraction.specs.declared.Fraction.{Fraction}
use Rattle.grid.specs.declared.Stroke.{Stroke}
use Rattle.grid.specs.declared.Window.{Window}
use Rattle.grid.specs.Table.{farthest, WindowOnTable, StrokeOnTable}
use Rattle.grid.specs.Sides.{Side, left, right, bottom, top, place_of, side_at, number_of}
use Rattle.codes.specs.Codes.{past}
use Rattle.codes.specs.Workers.{Apart, WayMeets, StrokeMeets}
use Rattle.codes.proofs.Forms.{form, slope, base, beyond_form, inside_form}

-- ---- on the way from a to b
module _ {c a b : ℤ} (wc : Within farthest c) (wa : Within farthest a) (wb : Within farthest b) where
  abbrev ρ : Env
  ρ = c ∷ a ∷ b ∷ []

  abbrev β : List ℕ
  β = farthest ∷ farthest ∷ farthest ∷ []

  bounds : Bounds β ρ
  bounds = (wc, (wa, (wb, tt)))

  pub meets_on : pos 0 ≤ℤ (b -ℤ a) → (a ≡ b → ⊥) → WayMeets c a b (record { num = c -ℤ a; den = b -ℤ a })
  meets_on h n = record {
    den = ⊎_elim (λ l. absurd (n (≤_antisym (diff-≤ h) l))) <_diff (≤_total b a);
    at = ring ρ (x1 ⊗ (x2 ⊖ x1) ⊕ (x0 ⊖ x1) ⊗ (x2 ⊖ x1)) (x0 ⊗ (x2 ⊖ x1)) tt;
    small = within β ρ bounds (x2 ⊖ x1) tt;
  }

  pub meets_back : (b -ℤ a) <ℤ pos 0 → WayMeets c a b (record { num = pos 0 -ℤ (c -ℤ a); den = pos 0 -ℤ (b -ℤ a) })
  meets_back h = record {
    den = omega (zarith, sub_is (pos 0) (b -ℤ a));
    at = ring ρ (x1 ⊗ (con (pos 0) ⊖ (x2 ⊖ x1)) ⊕ (con (pos 0) ⊖ (x0 ⊖ x1)) ⊗ (x2 ⊖ x1)) (x0 ⊗ (con (pos 0) ⊖ (x2 ⊖ x1))) tt;
    small = within β ρ bounds (con (pos 0) ⊖ (x2 ⊖ x1)) tt;
  }

-- ---- at a side
abbrev pub from : Stroke → Side → ℤ
from s left = s.x1
from s right = s.x1
from s bottom = s.y1
from s top = s.y1

abbrev pub to : Stroke → Side → ℤ
to s left = s.x2
to s right = s.x2
to s bottom = s.y2
to s top = s.y2

pub number_on : {w : Window} (k : Side) → WindowOnTable w → Within farthest (number_of w k)
number_on left h = h.left
number_on right h = h.right
number_on bottom h = h.bottom
number_on top h = h.top

pub from_on : {s : Stroke} (k : Side) → StrokeOnTable s → Within farthest (from s k)
from_on left h = h.x1
from_on right h = h.x1
from_on bottom h = h.y1
from_on top h = h.y1

pub to_on : {s : Stroke} (k : Side) → StrokeOnTable s → Within farthest (to s k)
to_on left h = h.x2
to_on right h = h.x2
to_on bottom h = h.y2
to_on top h = h.y2

pub apart_ends : (s : Stroke) (k : Side) → Apart s k → from s k ≡ to s k → ⊥
apart_ends s left h = h
apart_ends s right h = h
apart_ends s bottom h = h
apart_ends s top h = h

zero_diff : {x y : ℤ} → x ≡ y → x -ℤ y ≡ pos 0
zero_diff {x} {y} e = omega (zarith, sub_is x y)

pub meets_side : (w : Window) (s : Stroke) (k : Side) {f : Fraction} → WayMeets (number_of w k) (from s k) (to s k) f → StrokeMeets w s k f
meets_side w s k {f} m = record { line = record { den = m.den; on = on k m }; small = m.small }
  where
    on : (k : Side) → WayMeets (number_of w k) (from s k) (to s k) f → past w s k f ≡ pos 0
    on left m = zero_diff (sym m.at)
    on right m = zero_diff m.at
    on bottom m = zero_diff (sym m.at)
    on top m = zero_diff m.at

-- a form that is positive at f and not at g is not level; so of a stroke with one point beyond a side and one that is not the ends are apart
not_level : (u v : ℤ) (f g : Fraction) → pos 0 <ℤ f.den → pos 0 <ℤ g.den → pos 0 <ℤ form u v f → form u v g ≤ℤ pos 0 → u ≡ pos 0 → ⊥
not_level u v f g hf hg beyond inside e =
    clash (u ∷ v ∷ f.num ∷ f.den ∷ g.num ∷ g.den ∷ [])
    (po (var 5) hg ⊠ po (var 0 ⊗ var 2 ⊕ var 1 ⊗ var 3) beyond ⊞ po (var 3) hf ⊠ le (var 0 ⊗ var 4 ⊕ var 1 ⊗ var 5) (con (pos 0)) inside
    ⊞ eq (var 3 ⊗ var 4 ⊖ var 5 ⊗ var 2) (var 0) (con (pos 0)) e) tt

pub apart : (w : Window) (s : Stroke) (f g : Fraction) (k : Side) → pos 0 <ℤ f.den → pos 0 <ℤ g.den → pos 0 <ℤ past w s k f → past w s k g ≤ℤ pos 0 → Apart s k
apart w s f g k hf hg p q = ends k (not_level (slope w s k) (base w s k) f g hf hg (beyond_form w s k f p) (inside_form w s k g q))
  where
    ends : (k : Side) → (slope w s k ≡ pos 0 → ⊥) → Apart s k
    ends left h = λ e. h (ap neg_ℤ (zero_diff (sym e)))
    ends right h = λ e. h (zero_diff (sym e))
    ends bottom h = λ e. h (ap neg_ℤ (zero_diff (sym e)))
    ends top h = λ e. h (zero_diff (sym e))

-- ---- a side and its number
pub side_of : (k : Side) → side_at (place_of k) ≡ k
side_of left = refl
side_of right = refl
side_of bottom = refl
side_of top = refl

pub place_small : (k : Side) → place_of k < 4
place_small left = omega arith
place_small right = omega arith
place_small bottom = omega arith
place_small top = omega arith

pub top_of : (n : ℕ) → (n ≡ 0 → ⊥) → (n ≡ 1 → ⊥) → (n ≡ 2 → ⊥) → side_at n ≡ top
top_of zero a b c = absurd (a refl)
top_of (suc zero) a b c = absurd (b refl)
top_of (suc (suc zero)) a b c = absurd (c refl)
top_of (suc (suc (suc n))) a b c = refl
