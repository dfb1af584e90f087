-- Up and down of edges are told by a point infinitely far to the right, turned down by less
-- than any edge of the table: an edge that is level goes up where it goes right.
-- At a left turn the edges begin to go up, so told, where the first has y < 0 and the second has not.
use mathlib.Core.Path.{◌≡◌}
use mathlib.Core.List.{[], ◌∷◌}
use mathlib.Core.Logic.{◌⊎◌, inl, inr, ◌↔◌}
use Prim.Native.Nat.{ℕ, suc}
use lib.IntN.{ℤ, pos, negsuc, ◌+ℤ◌, ◌*ℤ◌}
use lib.Signed.{◌≤ℤ◌, ◌<ℤ◌}
use Rattle.whole.proofs.Naturals.{add_is, mul_is}
use Rattle.whole.proofs.Expressions.{Expr, Env, var, con, neg, ◌⊕◌, ◌⊖◌, ◌⊗◌}
use Rattle.whole.proofs.Order.{zarith, sign}
use Rattle.whole.proofs.Certificates.{gt, gt_by, clash, lt, nn, po, eq, ◌⊞◌, ◌⊠◌}
use Rattle.rings.specs.Points.{Point, value, through}
use Rattle.rings.proofs.Plane.{nought, cycle}
use Rattle.rings.proofs.Hill.{Up, Down}
use Rattle.convex.specs.Ways.{Short, way_from, cross_of}
use Rattle.convex.specs.declared.Corner.{Corner}
use Rattle.convex.specs.declared.Way.{Way}
use Rattle.convex.proofs.Places.{side_by, point_of}

abbrev pub east : Point
east = record { X = pos 32768; Y = negsuc 0; W = pos 0 }

abbrev pub slope : Way → ℤ
slope w = w.x +ℤ pos 32768 *ℤ w.y

-- ---- the slope of an edge is its side
module _ (a b : Corner) where
  abbrev ρ : Env
  ρ = a.x ∷ a.y ∷ b.x ∷ b.y ∷ []

  abbrev slope_by : Expr
  slope_by = (var 2 ⊖ var 0) ⊕ con (pos 32768) ⊗ (var 3 ⊖ var 1)

  abbrev down_by : ℕ → ℕ → Expr
  down_by i j = side_by (var i) (var (suc i)) (var j) (var (suc j)) (con (pos 32768)) (con (negsuc 0)) nought

  pub down_slope : (slope (way_from a b) <ℤ pos 0) ↔ Down east (point_of a) (point_of b)
  unfolding value through
  down_slope = (λ h. record { left = gt ρ nought (down_by 0 2) (lt slope_by nought h) tt }, λ h. gt ρ slope_by nought (po (down_by 0 2) h.left) tt)

  pub up_slope : (pos 0 <ℤ slope (way_from a b)) ↔ Up east (point_of a) (point_of b)
  unfolding value through
  up_slope = (λ h. cycle (record { left = gt ρ nought (down_by 2 0) (po slope_by h) tt }), λ h. gt ρ nought slope_by (po (down_by 2 0) (cycle (cycle h)).left) tt)

-- ---- the slope of a way of the table has the sign of y, and where y is 0 of x
module _ {w : Way} (h : Short w) where
  falls : w.y <ℤ pos 0 → slope w <ℤ pos 0
  falls k = let l = h.x.high in omega (zarith, add_is w.x (pos 32768 *ℤ w.y), mul_is (pos 32768) w.y)

  rises : pos 0 <ℤ w.y → pos 0 <ℤ slope w
  rises k = let l = h.x.low in omega (zarith, add_is w.x (pos 32768 *ℤ w.y), mul_is (pos 32768) w.y)

  level : w.y ≡ pos 0 → slope w ≡ w.x
  level k = omega (zarith, add_is w.x (pos 32768 *ℤ w.y), mul_is (pos 32768) w.y)

-- ---- a left turn
abbrev Sign : ℤ → Type 0
Sign z = (z <ℤ pos 0) ⊎ ((z ≡ pos 0) ⊎ (pos 0 <ℤ z))

module _ {a b : Way} (ha : Short a) (hb : Short b) (turn : pos 0 <ℤ cross_of a b) where
  abbrev σ : Env
  σ = a.x ∷ a.y ∷ b.x ∷ b.y ∷ []

  abbrev cross_of_lem : Expr
  cross_of_lem = var 0 ⊗ var 3 ⊖ var 1 ⊗ var 2

  right_after : a.y <ℤ pos 0 → b.y ≡ pos 0 → pos 0 <ℤ b.x
  right_after k e = gt_by σ (lt (var 1) nought k) nought (var 2) (po cross_of_lem turn ⊞ eq (neg (var 0)) (var 3) nought e) tt

  not_left_before : a.x <ℤ pos 0 → a.y ≡ pos 0 → pos 0 ≤ℤ b.y → ⊥
  not_left_before k e l = clash σ (po cross_of_lem turn ⊞ lt (var 0) nought k ⊠ nn (var 3) l ⊞ eq (var 2) (var 1) nought e) tt

  not_still : a.x ≡ pos 0 → a.y ≡ pos 0 → ⊥
  not_still k e = clash σ (po cross_of_lem turn ⊞ eq (neg (var 3)) (var 0) nought k ⊞ eq (var 2) (var 1) nought e) tt

  pub sloping : (slope a <ℤ pos 0) ⊎ (pos 0 <ℤ slope a)
  sloping = go (sign a.y) (sign a.x)
    where
      go : Sign a.y → Sign a.x → (slope a <ℤ pos 0) ⊎ (pos 0 <ℤ slope a)
      go (inl k) t = inl (falls ha k)
      go (inr (inr k)) t = inr (rises ha k)
      go (inr (inl e)) (inl k) = let l = level ha e in inl (omega zarith)
      go (inr (inl e)) (inr (inr k)) = let l = level ha e in inr (omega zarith)
      go (inr (inl e)) (inr (inl k)) = absurd (not_still k e)

  pub rise_slopes : a.y <ℤ pos 0 → pos 0 ≤ℤ b.y → (slope a <ℤ pos 0) × (pos 0 <ℤ slope b)
  rise_slopes k l = (falls ha k, go (sign b.y))
    where
      go : Sign b.y → pos 0 <ℤ slope b
      go (inl m) = absurd (omega zarith)
      go (inr (inl e)) = let m = level hb e in let r = right_after k e in omega zarith
      go (inr (inr m)) = rises hb m

  pub slopes_rise : slope a <ℤ pos 0 → pos 0 <ℤ slope b → (a.y <ℤ pos 0) × (pos 0 ≤ℤ b.y)
  slopes_rise k l = (first (sign a.y), second)
    where
      second : pos 0 ≤ℤ b.y
      second = go (sign b.y)
        where
          go : Sign b.y → pos 0 ≤ℤ b.y
          go (inl m) = let f = falls hb m in absurd (omega zarith)
          go (inr (inl e)) = omega zarith
          go (inr (inr m)) = omega zarith

      first : Sign a.y → a.y <ℤ pos 0
      first (inl m) = m
      first (inr (inl e)) = let m = level ha e in absurd (not_left_before (omega zarith) e second)
      first (inr (inr m)) = let f = rises ha m in absurd (omega zarith)
