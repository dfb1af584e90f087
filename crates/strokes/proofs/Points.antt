-- The stroke's points: at 0 and at 1 its own ends; rounded points never leave the window; and there is one for each fraction.
use mathlib.Core.Path.{◌≡◌}
use mathlib.Core.List.{[], ◌∷◌}
use lib.IntN.{ℤ, pos, ◌*ℤ◌, ◌+ℤ◌, ◌-ℤ◌}
use lib.Signed.{◌<ℤ◌}
use Rattle.whole.proofs.Certificates.{eqn, eq_by}
use Rattle.whole.proofs.Expressions.{con, ◌⊕◌, ◌⊖◌, ◌⊗◌, x0, x1, x2, x3}
use Rattle.fraction.specs.declared.Fraction.{Fraction}
use Rattle.fraction.specs.Fraction.{LowestOf}
use Rattle.fraction.proofs.Rounding.{rounded_unique, rounded_exact, rounded_inside, rounded_same}
use Rattle.grid.specs.declared.Stroke.{Stroke}
use Rattle.grid.specs.declared.Window.{Window}
use Rattle.strokes.specs.Laws.{InClosedWindow}
use Rattle.strokes.specs.Strokes.{Keeps, PointAt}

module _ {s : Stroke} {f : Fraction} (h : pos 0 <ℤ f.den) where
  pub point_start : f.num ≡ pos 0 → PointAt s f s.x1 s.y1
  point_start e = record { across = rounded_exact (at_start s.x1 s.x2) h; up = rounded_exact (at_start s.y1 s.y2) h }
    where
      at_start : (a b : ℤ) → a *ℤ f.den +ℤ f.num *ℤ (b -ℤ a) ≡ a *ℤ f.den
      at_start a b = eq_by (a ∷ b ∷ f.num ∷ f.den ∷ []) (x0 ⊗ x3 ⊕ x2 ⊗ (x1 ⊖ x0)) (x0 ⊗ x3) (eqn (x1 ⊖ x0) x2 (con (pos 0)) e) tt

  pub point_finish : f.num ≡ f.den → PointAt s f s.x2 s.y2
  point_finish e = record { across = rounded_exact (at_finish s.x1 s.x2) h; up = rounded_exact (at_finish s.y1 s.y2) h }
    where
      at_finish : (a b : ℤ) → a *ℤ f.den +ℤ f.num *ℤ (b -ℤ a) ≡ b *ℤ f.den
      at_finish a b = eq_by (a ∷ b ∷ f.num ∷ f.den ∷ []) (x0 ⊗ x3 ⊕ x2 ⊗ (x1 ⊖ x0)) (x1 ⊗ x3) (eqn (x1 ⊖ x0) x2 x3 e) tt

  pub point_unique : {x y u v : ℤ} → PointAt s f x y → PointAt s f u v → (x ≡ u) × (y ≡ v)
  point_unique p q = (rounded_unique h p.across q.across, rounded_unique h p.up q.up)

  -- a rounded point of a kept fraction lies in the window
  pub point_inside : {w : Window} {x y : ℤ} → Keeps w s f.num f.den → PointAt s f x y → InClosedWindow w x y
  point_inside {w} k p =
      let x = rounded_inside w.left w.right h k.x.above k.x.below p.across in
      let y = rounded_inside w.bottom w.top h k.y.above k.y.below p.up in
      record { left = x.0; right = x.1; bottom = y.0; top = y.1 }

-- the point at an unreduced fraction is that at the fraction in lowest terms
pub point_lowest : {s : Stroke} {f g : Fraction} {x y : ℤ} → pos 0 <ℤ f.den → LowestOf f.num f.den g → PointAt s f x y → PointAt s g x y
point_lowest {s} h l p = record { across = rounded_same s.x1 s.x2 h l p.across; up = rounded_same s.y1 s.y2 h l p.up }
