-- The sides of a window by their places: each case by itself.
use mathlib.Core.Path.{◌≡◌, refl, ap, ◌∙◌, sym}
use mathlib.Core.List.{List}
use Prim.Native.Nat.{ℕ, zero, suc, ◌<◌}
use native.Mathlib.Omega.{arith}
use lib.IntN.{ℤ, pos}
use lib.ListN.{get_or}
use Rattle.whole.specs.Within.{Within}
use Rattle.grid.specs.declared.Window.{Window}
use Rattle.grid.specs.Sides.{Side, left, right, bottom, top, place_of, side_at, number_of}
use Rattle.grid.specs.Table.{farthest, WindowOnTable}
use Rattle.rings.specs.Points.{Real}
use Rattle.rings.proofs.Windows.{left_real, right_real, bottom_real, top_real}
use Rattle.limits.specs.Sides.{window_of, side_line}

-- ---- a side and its place
pub place_below : (k : Side) → place_of k < 4
place_below left = omega arith
place_below right = omega arith
place_below bottom = omega arith
place_below top = omega arith

pub side_place : (k : Side) → side_at (place_of k) ≡ k
side_place left = refl
side_place right = refl
side_place bottom = refl
side_place top = refl

pub place_side : (s : ℕ) → s < 4 → place_of (side_at s) ≡ s
place_side zero h = refl
place_side (suc zero) h = refl
place_side (suc (suc zero)) h = refl
place_side (suc (suc (suc zero))) h = refl
place_side (suc (suc (suc (suc s)))) h = absurd (omega arith)

-- ---- its number
pub number_within : (w : Window) (k : Side) → WindowOnTable w → Within farthest (number_of w k)
number_within w left t = t.left
number_within w right t = t.right
number_within w bottom t = t.bottom
number_within w top t = t.top

number_of_lem : (ns : List ℤ) (k : Side) → get_or ns (place_of k) (pos 0) ≡ number_of (window_of ns) k
number_of_lem ns left = refl
number_of_lem ns right = refl
number_of_lem ns bottom = refl
number_of_lem ns top = refl

pub number_at : (ns : List ℤ) (s : ℕ) → s < 4 → get_or ns s (pos 0) ≡ number_of (window_of ns) (side_at s)
number_at ns s h = ap (λ (i : ℕ). get_or ns i (pos 0)) (sym (place_side s h)) ∙ number_of_lem ns (side_at s)

-- ---- its line
pub side_line_real : (w : Window) (k : Side) → Real (side_line w k)
side_line_real w left = left_real w.left
side_line_real w right = right_real w.right
side_line_real w bottom = bottom_real w.bottom
side_line_real w top = top_real w.top
