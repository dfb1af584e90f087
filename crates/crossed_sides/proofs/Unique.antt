-- There is one answer: no side is crossed where all corners lie on one side of the line, and of four sides one is the first.
use mathlib.Core.Path.{◌≡◌, refl}
use Rattle.std.specs.Prelude.{None, Some}
use mathlib.Core.Bool.{Bool, true, false}
use mathlib.Core.List.{List}
use mathlib.Core.Logic.{inl, inr}
use Prim.Native.Nat.{ℕ, ◌≤◌}
use native.Mathlib.Omega.{arith}
use lib.IntN.{ℤ, pos}
use lib.Signed.{◌<ℤ◌, lt_z}
use Rattle.whole.specs.Choice.{when◌then◌else◌}
use Rattle.whole.proofs.Comparisons.{by-test}
use Rattle.whole.proofs.Order.{zarith}
use Rattle.grid.specs.declared.Stroke.{Stroke}
use Rattle.grid.specs.declared.Window.{Window}
use Rattle.grid.specs.Sides.{Side, left, right, bottom, top}
use Rattle.rings.specs.Lists.{All, ∅, ◌◂◌}
use Rattle.spans.specs.Sides.{FirstOf, here, later}
use Rattle.spans.proofs.Sides.{least_unique}
use Rattle.strokes.specs.Sides.{four_sides}
use Rattle.strokes.specs.Workers.{side_met}
use Rattle.crossed_sides.specs.declared.Crossed.{Crossed}
use Rattle.crossed_sides.specs.Laws.{OneCrossing}
use Rattle.crossed_sides.specs.Line.{first_corner, second_corner, OneSide, ComesIn, CrossedAt}

-- ---- beside the window no side is crossed
some : {P : Side → Type 0} {ks : List Side} {n : ℕ} → ((k : Side) → P k → ⊥) → FirstOf P ks n → ⊥
some f (here {x = k} p) = f k p
some f (later n r) = some f r

module _ (w : Window) (s : Stroke) where
  -- each corner is the first of a side and the second of another
  left_corners : All (λ (k : Side). pos 0 <ℤ first_corner w s k) four_sides → (k : Side) → (pos 0 <ℤ first_corner w s k) × (pos 0 <ℤ second_corner w s k)
  left_corners (l ◂ r ◂ b ◂ t ◂ ∅) left = (l, b)
  left_corners (l ◂ r ◂ b ◂ t ◂ ∅) right = (r, t)
  left_corners (l ◂ r ◂ b ◂ t ◂ ∅) bottom = (b, r)
  left_corners (l ◂ r ◂ b ◂ t ◂ ∅) top = (t, l)

  right_corners : All (λ (k : Side). first_corner w s k <ℤ pos 0) four_sides → (k : Side) → (first_corner w s k <ℤ pos 0) × (second_corner w s k <ℤ pos 0)
  right_corners (l ◂ r ◂ b ◂ t ◂ ∅) left = (l, b)
  right_corners (l ◂ r ◂ b ◂ t ◂ ∅) right = (r, t)
  right_corners (l ◂ r ◂ b ◂ t ◂ ∅) bottom = (b, r)
  right_corners (l ◂ r ◂ b ◂ t ◂ ∅) top = (t, l)

  never_in : OneSide w s → (k : Side) → ComesIn w s k → ⊥
  never_in (inl a) k h = let c = (left_corners a k).1 in let r = h.right in omega zarith
  never_in (inr a) k h = let c = (right_corners a k).0 in let l = h.left in omega zarith

  crossed_not_beside : {c : Crossed} → OneSide w s → CrossedAt w s c → ⊥
  crossed_not_beside p q = some (never_in p) q.comes

-- ---- the numbers of the upright sides and of the level ones
met_among : (a b : ℤ) (i j : ℕ) (P : ℕ → Type 0) → P i → P j → P (side_met a b i j)
met_among a b i j P p q = by-test (lt_z b a) P (λ e. q) (λ e. p)

same_level : (a b c d : ℤ) (t u : Bool)
    → (when t then side_met a b 2 3 else side_met c d 0 1) ≡ (when u then side_met a b 2 3 else side_met c d 0 1) → t ≡ u
same_level a b c d true true e = refl
same_level a b c d false false e = refl
same_level a b c d true false e =
    let l = met_among a b 2 3 (λ n. 2 ≤ n) (omega arith) (omega arith) in
    let u = met_among c d 0 1 (λ n. n ≤ 1) (omega arith) (omega arith) in absurd (omega arith)
same_level a b c d false true e =
    let l = met_among a b 2 3 (λ n. 2 ≤ n) (omega arith) (omega arith) in
    let u = met_among c d 0 1 (λ n. n ≤ 1) (omega arith) (omega arith) in absurd (omega arith)

pub one_crossing : OneCrossing
one_crossing w s None None p q = refl
one_crossing w s None (Some d) p q = absurd (crossed_not_beside w s p q)
one_crossing w s (Some c) None p q = absurd (crossed_not_beside w s q p)
one_crossing w s (Some c) (Some d) p q =
    let i = same_level s.y1 s.y2 s.x1 s.x2 c.entry d.entry (least_unique p.comes q.comes) in
    let o = same_level s.y2 s.y1 s.x2 s.x1 c.exit d.exit (least_unique p.goes q.goes) in
    λ k. Some (record { entry = i k; exit = o k })
