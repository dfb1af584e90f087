-- The four sides: a fraction is kept where its point is past none of them, and how many sides are still open to a shortening.
use mathlib.Core.Bool.{Bool, true, false, not, ◌&&◌}
use Prim.Native.Nat.{ℕ, ◌+◌, ◌≤◌, ◌<◌}
use native.Mathlib.Omega.{arith}
use lib.Dec.{T}
use lib.IntN.{ℤ, pos, ◌-ℤ◌}
use lib.Signed.{◌≤ℤ◌, le_z, le_z_yes}
use mir.Facts.{and_yes, yes_and, not_T}
use Rattle.whole.proofs.Order.{zarith, sub_is}
use Rattle.fraction.specs.declared.Fraction.{Fraction}
use Rattle.grid.specs.declared.Stroke.{Stroke}
use Rattle.grid.specs.declared.Window.{Window}
use Rattle.grid.specs.Sides.{Side, left, right, bottom, top}
use Rattle.spans.specs.Parts.{Time}
use Rattle.strokes.specs.Strokes.{Keeps}
use Rattle.codes.specs.Codes.{past}

abbrev pub fraction : ℤ → ℤ → Fraction
fraction n d = record { num = n; den = d }

-- ---- kept is past no side
less_diff : {a b : ℤ} → a ≤ℤ b → (a -ℤ b) ≤ℤ pos 0
less_diff {a} {b} h = omega (zarith, sub_is a b)

diff_less : {a b : ℤ} → (a -ℤ b) ≤ℤ pos 0 → a ≤ℤ b
diff_less {a} {b} h = omega (zarith, sub_is a b)

module _ (w : Window) (s : Stroke) (n d : ℤ) where
  pub keeps_inside : Keeps w s n d → (k : Side) → past w s k (fraction n d) ≤ℤ pos 0
  keeps_inside h left = less_diff h.x.above
  keeps_inside h right = less_diff h.x.below
  keeps_inside h bottom = less_diff h.y.above
  keeps_inside h top = less_diff h.y.below

  pub inside_keeps : Time n d → ((k : Side) → past w s k (fraction n d) ≤ℤ pos 0) → Keeps w s n d
  inside_keeps t h = record {
    time = t;
    x = record { above = diff_less (h left); below = diff_less (h right) };
    y = record { above = diff_less (h bottom); below = diff_less (h top) };
  }

-- ---- how many of the four sides are not shut
abbrev opens : Bool → ℕ
opens true = 0
opens false = 1

opens-≤ : (a b : Bool) → (T a → T b) → opens b ≤ opens a
opens-≤ true true h = omega arith
opens-≤ true false h = absurd (h tt)
opens-≤ false true h = omega arith
opens-≤ false false h = omega arith

opens-< : (a b : Bool) → T (not a) → T b → opens b < opens a
opens-< true b h k = absurd h
opens-< false true h k = omega arith
opens-< false false h k = absurd k

opens_one : (a : Bool) → opens a ≤ 1
opens_one true = omega arith
opens_one false = omega arith

unfoldable pub open_sides : (Side → Bool) → ℕ
open_sides f = opens (f left) + (opens (f right) + (opens (f bottom) + opens (f top)))

module _ (f g : Side → Bool) (h : (k : Side) → T (f k) → T (g k)) where
  abbrev at : (k : Side) → opens (g k) ≤ opens (f k)
  at k = opens-≤ (f k) (g k) (h k)

  pub open_falls : (k : Side) → T (not (f k)) → T (g k) → open_sides g < open_sides f
  unfolding open_sides
  open_falls left p q = omega (arith, opens-< (f left) (g left) p q, at right, at bottom, at top)
  open_falls right p q = omega (arith, at left, opens-< (f right) (g right) p q, at bottom, at top)
  open_falls bottom p q = omega (arith, at left, at right, opens-< (f bottom) (g bottom) p q, at top)
  open_falls top p q = omega (arith, at left, at right, at bottom, opens-< (f top) (g top) p q)

pub open-≤ : (f : Side → Bool) → open_sides f ≤ 4
unfolding open_sides
open-≤ f = omega (arith, opens_one (f left), opens_one (f right), opens_one (f bottom), opens_one (f top))

-- side k is shut where neither point is past it
abbrev pub shut : Window → Stroke → Fraction → Fraction → Side → Bool
shut w s f g k = le_z (past w s k f) (pos 0) && le_z (past w s k g) (pos 0)

module _ (w : Window) (s : Stroke) (f g : Fraction) (k : Side) where
  abbrev one : Bool
  one = le_z (past w s k f) (pos 0)

  abbrev other : Bool
  other = le_z (past w s k g) (pos 0)

  pub shut_inside : T (shut w s f g k) → (past w s k f ≤ℤ pos 0) × (past w s k g ≤ℤ pos 0)
  shut_inside t = let u = and_yes one other t in (le_z_yes u.0, le_z_yes u.1)

  pub inside_shut : past w s k f ≤ℤ pos 0 → past w s k g ≤ℤ pos 0 → T (shut w s f g k)
  inside_shut p q = yes_and one other p.le q.le

  pub beyond_open : ((past w s k f ≤ℤ pos 0) × (past w s k g ≤ℤ pos 0) → ⊥) → T (not (shut w s f g k))
  beyond_open h = not_T (shut w s f g k) (λ t. h (shut_inside t))
