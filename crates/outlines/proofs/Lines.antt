-- Where a line through two grid points meets a side of a window, the coordinate along the side has a denominator of at most 32,766: what the line advances across it.
use mathlib.Core.Path.{◌≡◌, sym, ◌∙◌, subst}
use mathlib.Core.List.{[], ◌∷◌}
use mathlib.Core.Logic.{◌⊎◌, inl, inr}
use native.Mathlib.Omega.{arith}
use lib.IntN.{ℤ, pos, negsuc, neg_ℤ, ◌+ℤ◌, ◌-ℤ◌, ◌*ℤ◌}
use lib.Signed.{◌≤ℤ◌, ◌<ℤ◌}
use Rattle.whole.specs.Within.{Within}
use Rattle.whole.proofs.Expressions.{Expr, var, con, ◌⊕◌, ◌⊖◌, ◌⊗◌, neg, Env}
use Rattle.whole.proofs.Polynomials.{ring}
use Rattle.whole.proofs.Naturals.{neg_plus, neg_minus}
use Rattle.whole.proofs.Order.{zarith, sub_is, sign}
use Rattle.whole.proofs.Certificates.{clash, lt, po, eq, ◌⊞◌, ◌⊠◌, eq_by, eqn, ◌⊹◌}
use Rattle.whole.proofs.Ranges.{abs_within}
use Rattle.rings.specs.Points.{Point, Line, value, On, Real, Proper}
use Rattle.rings.specs.Cuts.{Across, leaves, enters}
use Rattle.rings.specs.Windows.{left_side, right_side, bottom_side, top_side}
use Rattle.rings.proofs.Plane.{x_of, y_of, w_of, with_line, value_of, nought}
use Rattle.rings.proofs.Windows.{left_value, right_value, bottom_value, top_value, left_real, right_real, bottom_real, top_real}

-- n/w has a denominator of at most 32,766
pub record Ratio (n w : ℤ) : Type 0 where
  pub num : ℤ
  pub den : ℤ
  pub positive : pos 0 <ℤ den
  pub small : den ≤ℤ pos 32766
  pub same : n *ℤ den ≡ num *ℤ w

pub whole_ratio : {n w : ℤ} (z : ℤ) → n ≡ z *ℤ w → Ratio n w
whole_ratio {n} {w} z e = record { num = z; den = pos 1; positive = omega zarith; small = omega zarith; same = ring (n ∷ []) (var 0 ⊗ con (pos 1)) (var 0) tt ∙ e }

-- both coordinates
pub record Fine (p : Point) : Type 0 where
  pub proper : Proper p
  pub x : Ratio p.X p.W
  pub y : Ratio p.Y p.W

-- a line as that through two grid points
pub record Ruled (l : Line) : Type 0 where
  pub real : Real l
  pub a : Within 32766 l.A
  pub b : Within 32766 l.B

-- two points on a line
pub record Chord (l : Line) (u v : Point) : Type 0 where
  pub from : On l u
  pub to : On l v
  pub first : Proper u
  pub second : Proper v

-- they lie on different sides of the coordinate z
data Apart (z xu wu xv wv : ℤ) : Type 0 where
  falls : (z *ℤ wu) <ℤ xu → xv <ℤ (z *ℤ wv) → Apart z xu wu xv wv
  rises : xu <ℤ (z *ℤ wu) → (z *ℤ wv) <ℤ xv → Apart z xu wu xv wv

-- ---- a line across x = z is not upright
falls_not_upright : {l : Line} {u v : Point} (z : ℤ) → Ruled l → Chord l u v → (z *ℤ u.W) <ℤ u.X → v.X <ℤ (z *ℤ v.W) → l.B ≡ pos 0 → ⊥
unfolding value
falls_not_upright {l} {u} {v} z k o hu hv e =
    let at_v : Expr = x_of 3 ⊗ w_of 2 ⊖ w_of 3 ⊗ x_of 2 in
    let at_u : Expr = w_of 3 ⊗ x_of 1 ⊖ x_of 3 ⊗ w_of 1 in
    clash (with_line l (u ∷ v ∷ k.real.0 ∷ record { X = z; Y = z; W = z } ∷ []))
    (
    (lt (x_of 4 ⊗ w_of 1) (x_of 1) hu ⊠ po (w_of 2) o.second ⊞ lt (x_of 2) (x_of 4 ⊗ w_of 2) hv ⊠ po (w_of 1) o.first) ⊠ po (value_of 0 3) k.real.1
    ⊞ eq (neg at_v) (value_of 0 1) nought o.from
    ⊞ eq (neg at_u) (value_of 0 2) nought o.to
    ⊞ eq (at_v ⊗ y_of 1 ⊕ at_u ⊗ y_of 2 ⊖ (x_of 1 ⊗ w_of 2 ⊖ x_of 2 ⊗ w_of 1) ⊗ y_of 3) (y_of 0) nought e
    ) tt

not_upright : {l : Line} {u v : Point} (z : ℤ) → Ruled l → Chord l u v → Apart z u.X u.W v.X v.W → l.B ≡ pos 0 → ⊥
not_upright z k o (falls a b) = falls_not_upright z k o a b
not_upright z k o (rises a b) = falls_not_upright z k (record { from = o.to; to = o.from; first = o.second; second = o.first }) b a

-- so its height there is a fraction over what it advances
height : {l : Line} {u v : Point} (z : ℤ) (c : Point) → Ruled l → Chord l u v → Apart z u.X u.W v.X v.W → On l c → c.X ≡ z *ℤ c.W → Ratio c.Y c.W
unfolding value
height {l} z c k o d lc e = go (sign l.B)
  where
    ρ : Env
    ρ = with_line l (c ∷ record { X = z; Y = z; W = z } ∷ [])

    go : (l.B <ℤ pos 0) ⊎ ((l.B ≡ pos 0) ⊎ (pos 0 <ℤ l.B)) → Ratio c.Y c.W
    go (inl h) = record {
      num = l.A *ℤ z +ℤ l.C;
      den = neg_ℤ l.B;
      positive = omega (zarith, neg_plus l.B, neg_minus l.B);
      small = omega (zarith, k.b.low, neg_plus l.B, neg_minus l.B);
      same = eq_by ρ (y_of 1 ⊗ neg (y_of 0)) ((x_of 0 ⊗ x_of 2 ⊕ w_of 0) ⊗ w_of 1)
          (eqn (con (negsuc 0)) (value_of 0 1) nought lc ⊹ eqn (x_of 0) (x_of 1) (x_of 2 ⊗ w_of 1) e) tt;
    }
    go (inr (inl h)) = absurd (not_upright z k o d h)
    go (inr (inr h)) = record {
      num = neg_ℤ (l.A *ℤ z +ℤ l.C);
      den = l.B;
      positive = h;
      small = k.b.high;
      same = eq_by ρ (y_of 1 ⊗ y_of 0) (neg (x_of 0 ⊗ x_of 2 ⊕ w_of 0) ⊗ w_of 1)
          (eqn (con (pos 1)) (value_of 0 1) nought lc ⊹ eqn (neg (x_of 0)) (x_of 1) (x_of 2 ⊗ w_of 1) e) tt;
    }

-- ---- x and y exchanged
swapped : Line → Line
swapped l = record { A = l.B; B = l.A; C = l.C }

mirror : Point → Point
mirror p = record { X = p.Y; Y = p.X; W = p.W }

mirrored : (l : Line) (p : Point) → value (swapped l) (mirror p) ≡ value l p
unfolding value swapped mirror
mirrored l p = ring (with_line l (p ∷ [])) (y_of 0 ⊗ y_of 1 ⊕ x_of 0 ⊗ x_of 1 ⊕ w_of 0 ⊗ w_of 1) (value_of 0 1) tt

width : {l : Line} {u v : Point} (z : ℤ) (c : Point) → Ruled l → Chord l u v → Apart z u.Y u.W v.Y v.W → On l c → c.Y ≡ z *ℤ c.W → Ratio c.X c.W
unfolding swapped mirror
width {l} {u} {v} z c k o d lc e =
    height {l = swapped l} {u = mirror u} {v = mirror v} z (mirror c)
    (record { real = (mirror k.real.0, subst (λ (n : ℤ). pos 0 <ℤ n) (sym (mirrored l k.real.0)) k.real.1); a = k.b; b = k.a })
    (record { from = mirrored l u ∙ o.from; to = mirrored l v ∙ o.to; first = o.first; second = o.second })
    d
    (mirrored l c ∙ lc)
    e

-- ---- the four sides
pub data Side : Line → Type 0 where
  left : (z : ℤ) → Side (left_side z)
  right : (z : ℤ) → Side (right_side z)
  bottom : (z : ℤ) → Side (bottom_side z)
  top : (z : ℤ) → Side (top_side z)

module _ {n x y : ℤ} (e : n ≡ y -ℤ x) where
  over_by : pos 0 <ℤ n → x <ℤ y
  over_by h = omega (zarith, sub_is y x)

  out_by : n <ℤ pos 0 → y <ℤ x
  out_by h = omega (zarith, sub_is y x)

  on_by : n ≡ pos 0 → y ≡ x
  on_by h = omega (zarith, sub_is y x)

-- the value of a side is the coordinate less z, or z less the coordinate
module _ {h : Line} {u v : Point} {z xu wu xv wv : ℤ} where
  above : value h u ≡ xu -ℤ z *ℤ wu → value h v ≡ xv -ℤ z *ℤ wv → Across h u v → Apart z xu wu xv wv
  above p q (leaves a b) = falls (over_by p a) (out_by q b)
  above p q (enters a b) = rises (out_by p a) (over_by q b)

  below : value h u ≡ z *ℤ wu -ℤ xu → value h v ≡ z *ℤ wv -ℤ xv → Across h u v → Apart z xu wu xv wv
  below p q (leaves a b) = rises (over_by p a) (out_by q b)
  below p q (enters a b) = falls (out_by p a) (over_by q b)

-- ---- a crossing of such a line and a side
pub meeting_fine : {h l : Line} {u v c : Point} → Side h → Ruled l → Chord l u v → Proper c → Across h u v → On l c → On h c → Fine c
meeting_fine {u = u} {v = v} {c = c} (left z) k o w a lc hc =
    let e = on_by (left_value z c) hc in
    record { proper = w; x = whole_ratio z e; y = height z c k o (above (left_value z u) (left_value z v) a) lc e }
meeting_fine {u = u} {v = v} {c = c} (right z) k o w a lc hc =
    let e = sym (on_by (right_value z c) hc) in
    record { proper = w; x = whole_ratio z e; y = height z c k o (below (right_value z u) (right_value z v) a) lc e }
meeting_fine {u = u} {v = v} {c = c} (bottom z) k o w a lc hc =
    let e = on_by (bottom_value z c) hc in
    record { proper = w; x = width z c k o (above (bottom_value z u) (bottom_value z v) a) lc e; y = whole_ratio z e }
meeting_fine {u = u} {v = v} {c = c} (top z) k o w a lc hc =
    let e = sym (on_by (top_value z c) hc) in
    record { proper = w; x = width z c k o (below (top_value z u) (top_value z v) a) lc e; y = whole_ratio z e }

pub side_ruled : {h : Line} → Side h → Ruled h
unfolding left_side right_side bottom_side top_side
side_ruled (left z) = record { real = left_real z; a = abs_within (omega arith); b = abs_within (omega arith) }
side_ruled (right z) = record { real = right_real z; a = abs_within (omega arith); b = abs_within (omega arith) }
side_ruled (bottom z) = record { real = bottom_real z; a = abs_within (omega arith); b = abs_within (omega arith) }
side_ruled (top z) = record { real = top_real z; a = abs_within (omega arith); b = abs_within (omega arith) }
