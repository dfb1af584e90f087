-- The plane in whole numbers: each law of lines, determinants and points between two others is one polynomial identity, given as a certificate.
use mathlib.Core.Path.{◌≡◌, ◌∙◌}
use mathlib.Core.List.{List, [], ◌∷◌}
use mathlib.Core.Logic.{◌⊎◌, inl, inr}
use Prim.Native.Nat.{ℕ, ◌+◌, ◌*◌}
use lib.IntN.{ℤ, pos, ◌+ℤ◌, ◌*ℤ◌, +ℤ_comm}
use lib.Signed.{◌≤ℤ◌, ◌<ℤ◌}
use Rattle.whole.proofs.Expressions.{Expr, var, con, ◌⊕◌, ◌⊖◌, ◌⊗◌, neg, Env}
use Rattle.whole.proofs.Order.{zarith, <→≤, ≤_total}
use Rattle.whole.proofs.Certificates.{ge, gt, ge_by, gt_by, clash, le, lt, nn, po, eq, ◌⊞◌, ◌⊠◌, eq_by, eqn, ◌⊹◌, eq_cancel, nat}
use Rattle.rings.specs.Points.{Point, Line, value, through, det, Left, LeftOn, In, Over, Out, On, Real, Proper}
use Rattle.rings.specs.Cuts.{Between}

-- ---- points and lines, quoted: point i of an environment, its coordinates, the value of line i at point j, a determinant
abbrev pub x_of : ℕ → Expr
x_of i = var (3 * i)

abbrev pub y_of : ℕ → Expr
y_of i = var (3 * i + 1)

abbrev pub w_of : ℕ → Expr
w_of i = var (3 * i + 2)

abbrev pub corners : List Point → Env
corners [] = []
corners (p ∷ ps) = p.X ∷ p.Y ∷ p.W ∷ corners ps

abbrev pub with_line : Line → List Point → Env
with_line h ps = h.A ∷ h.B ∷ h.C ∷ corners ps

abbrev pub value_of : ℕ → ℕ → Expr
value_of i j = x_of i ⊗ x_of j ⊕ y_of i ⊗ y_of j ⊕ w_of i ⊗ w_of j

abbrev pub det_of : ℕ → ℕ → ℕ → Expr
det_of i j k = (y_of i ⊗ w_of j ⊖ w_of i ⊗ y_of j) ⊗ x_of k ⊕ (w_of i ⊗ x_of j ⊖ x_of i ⊗ w_of j) ⊗ y_of k ⊕ (x_of i ⊗ y_of j ⊖ y_of i ⊗ x_of j) ⊗ w_of k

abbrev pub nought : Expr
nought = con (pos 0)

-- ---- the laws of the determinant
module _ {a b c : Point} where
  pub cycle : Left a b c → Left b c a
  unfolding value through
  cycle h = record { left = gt (corners (a ∷ b ∷ c ∷ [])) nought (det_of 1 2 0) (po (det_of 0 1 2) h.left) tt }

  pub cycle_on : LeftOn a b c → LeftOn b c a
  unfolding value through
  cycle_on h = record { left_on = ge (corners (a ∷ b ∷ c ∷ [])) nought (det_of 1 2 0) (nn (det_of 0 1 2) h.left_on) tt }

  pub weaken : Left a b c → LeftOn a b c
  weaken h = record { left_on = <→≤ h.left }

-- as seen from o, left of the line to r, turning left is transitive
pub turn : {o r x y z : Point} → Left o r y → Left o r x → Left o r z → Left o x y → Left o y z → Left o x z
unfolding value through
turn {o} {r} {x} {y} {z} ry rx rz xy yz = record {
  left =
      gt_by (corners (o ∷ r ∷ x ∷ y ∷ z ∷ [])) (po (det_of 0 1 3) ry.left) nought (det_of 0 2 4)
      (po (det_of 0 1 2) rx.left ⊠ po (det_of 0 3 4) yz.left ⊞ po (det_of 0 1 4) rz.left ⊠ po (det_of 0 2 3) xy.left) tt;
}

-- a point taken twice
module _ (a p : Point) where
  pub twice12 : LeftOn a a p
  unfolding value through
  twice12 = record { left_on = ge (corners (a ∷ p ∷ [])) nought (det_of 0 0 1) (nat 0) tt }

  pub twice13 : LeftOn a p a
  twice13 = cycle_on twice12

  pub twice23 : LeftOn p a a
  twice23 = cycle_on twice13

pub left_irrefl : {a p : Point} → Left a p p → ⊥
unfolding value through
left_irrefl {a} {p} h = clash (corners (a ∷ p ∷ [])) (po (det_of 0 1 1) h.left) tt

pub left_asym : {a p q : Point} → Left a p q → Left a q p → ⊥
unfolding value through
left_asym {a} {p} {q} h k = clash (corners (a ∷ p ∷ q ∷ [])) (po (det_of 0 1 2) h.left ⊞ po (det_of 0 2 1) k.left) tt

pub either_side : (a b p : Point) → LeftOn a b p ⊎ LeftOn b a p
unfolding value through
either_side a b p = go (≤_total (pos 0) (det a b p))
  where
    go : (pos 0 ≤ℤ det a b p) ⊎ (det a b p <ℤ pos 0) → LeftOn a b p ⊎ LeftOn b a p
    go (inl h) = inl (record { left_on = h })
    go (inr h) = inr (record { left_on = ge (corners (a ∷ b ∷ p ∷ [])) nought (det_of 1 0 2) (lt (det_of 0 1 2) nought h) tt })

-- det(a,b,c)·h(p) = det(b,c,p)·h(a) + det(c,a,p)·h(b) + det(a,b,p)·h(c)
module _ {a b c p : Point} (t : Left a b c) (ab : LeftOn a b p) (bc : LeftOn b c p) (ca : LeftOn c a p) (h : Line) where
  pub triangle : In h a → In h b → In h c → In h p
  unfolding value through
  triangle ha hb hc =
      ge_by (with_line h (a ∷ b ∷ c ∷ p ∷ [])) (po (det_of 1 2 3) t.left) nought (value_of 0 4)
      (nn (det_of 2 3 4) bc.left_on ⊠ nn (value_of 0 1) ha ⊞ nn (det_of 3 1 4) ca.left_on ⊠ nn (value_of 0 2) hb
      ⊞ nn (det_of 1 2 4) ab.left_on ⊠ nn (value_of 0 3) hc) tt

  -- and positive, where all four are proper: then one of the three factors is positive
  pub triangle⁺ : Proper a → Proper b → Proper c → Proper p → Over h a → Over h b → Over h c → Over h p
  unfolding value through
  triangle⁺ wa wb wc wp ha hb hc =
      let one : Expr = con (pos 1) in
      gt_by (with_line h (a ∷ b ∷ c ∷ p ∷ [])) ((po (w_of 1) wa ⊞ po (w_of 2) wb ⊞ po (w_of 3) wc) ⊠ po (det_of 1 2 3) t.left) nought (value_of 0 4)
      (
      po (det_of 1 2 3) t.left ⊠ po (w_of 4) wp
      ⊞ nn (det_of 2 3 4) bc.left_on ⊠ (po (w_of 1) wa ⊠ le one (value_of 0 1) (omega (zarith, ha)) ⊞ (po (w_of 2) wb ⊞ po (w_of 3) wc) ⊠ po (value_of 0 1) ha)
      ⊞ nn (det_of 3 1 4) ca.left_on ⊠ (po (w_of 2) wb ⊠ le one (value_of 0 2) (omega (zarith, hb)) ⊞ (po (w_of 1) wa ⊞ po (w_of 3) wc) ⊠ po (value_of 0 2) hb)
      ⊞ nn (det_of 1 2 4) ab.left_on ⊠ (po (w_of 3) wc ⊠ le one (value_of 0 3) (omega (zarith, hc)) ⊞ (po (w_of 1) wa ⊞ po (w_of 2) wb) ⊠ po (value_of 0 3) hc)
      ) tt

-- the diagonals of a, b, c, d cross, so no line has a and c on one side and b and d strictly on the other
pub diagonals : (h : Line) {a b c d : Point} → Left b c d → Left a b d → Left a c d → Left a b c → In h a → Out h b → In h c → Out h d → ⊥
unfolding value through
diagonals h {a} {b} {c} {d} bcd abd acd abc ha hb hc hd =
    clash (with_line h (a ∷ b ∷ c ∷ d ∷ []))
    (po (det_of 2 3 4) bcd.left ⊠ nn (value_of 0 1) ha ⊞ po (det_of 1 2 4) abd.left ⊠ nn (value_of 0 3) hc
    ⊞ po (det_of 1 3 4) acd.left ⊠ lt (value_of 0 2) nought hb ⊞ po (det_of 1 2 3) abc.left ⊠ lt (value_of 0 4) nought hd) tt

-- three points on a real line: h(q)·det(a,b,c) = det(b,c,q)·h(a) + det(c,a,q)·h(b) + det(a,b,q)·h(c)
pub collinear : (h : Line) → Real h → (a b c : Point) → On h a → On h b → On h c → det a b c ≡ pos 0
unfolding value through
collinear h (q, hq) a b c ha hb hc =
    eq_cancel (with_line h (a ∷ b ∷ c ∷ q ∷ [])) (po (value_of 0 4) hq) (det_of 1 2 3) nought
    (eqn (det_of 2 3 4) (value_of 0 1) nought ha ⊹ eqn (det_of 3 1 4) (value_of 0 2) nought hb ⊹ eqn (det_of 1 2 4) (value_of 0 3) nought hc) tt

-- an edge between two points on h runs along h: h(x)·det(a,b,p) = h(p)·det(a,b,x)
pub runs_along : (h : Line) {a b x p : Point} → On h a → On h b → Over h x → LeftOn a b x → In h p → LeftOn a b p
unfolding value through
runs_along h {a} {b} {x} {p} ha hb hx l hp = record {
  left_on =
      ge_by (with_line h (a ∷ b ∷ x ∷ p ∷ [])) (po (value_of 0 3) hx) nought (det_of 1 2 4)
      (nn (value_of 0 4) hp ⊠ nn (det_of 1 2 3) l.left_on ⊞ eq (det_of 2 4 3) (value_of 0 1) nought ha ⊞ eq (neg (det_of 1 4 3)) (value_of 0 2) nought hb) tt;
}

-- ---- a point between two others
pub flip : {u v c : Point} → Between u v c → Between v u c
flip {u} {v} m = record {
  k = m.k;
  α = m.β;
  β = m.α;
  k⁺ = m.k⁺;
  α⁺ = m.β⁺;
  β⁺ = m.α⁺;
  is_x = m.is_x ∙ +ℤ_comm (m.α *ℤ u.X) (m.β *ℤ v.X);
  is_y = m.is_y ∙ +ℤ_comm (m.α *ℤ u.Y) (m.β *ℤ v.Y);
  is_w = m.is_w ∙ +ℤ_comm (m.α *ℤ u.W) (m.β *ℤ v.W);
}

module _ {u v c : Point} (m : Between u v c) where
  -- the value of a line there
  pub between_value : (f : Line) → m.k *ℤ value f c ≡ m.α *ℤ value f u +ℤ m.β *ℤ value f v
  unfolding value
  between_value f =
      eq_by (with_line f (record { X = m.k; Y = m.α; W = m.β } ∷ u ∷ v ∷ c ∷ [])) (x_of 1 ⊗ value_of 0 4) (y_of 1 ⊗ value_of 0 2 ⊕ w_of 1 ⊗ value_of 0 3)
      (eqn (x_of 0) (x_of 1 ⊗ x_of 4) (y_of 1 ⊗ x_of 2 ⊕ w_of 1 ⊗ x_of 3) m.is_x
      ⊹ eqn (y_of 0) (x_of 1 ⊗ y_of 4) (y_of 1 ⊗ y_of 2 ⊕ w_of 1 ⊗ y_of 3) m.is_y ⊹ eqn (w_of 0) (x_of 1 ⊗ w_of 4) (y_of 1 ⊗ w_of 2 ⊕ w_of 1 ⊗ w_of 3) m.is_w) tt

  -- c is a sum of u and v with positive factors, so are its values
  module _ (x y z : ℤ) (is : m.k *ℤ z ≡ m.α *ℤ x +ℤ m.β *ℤ y) where
    abbrev ρ : Env
    ρ = m.k ∷ m.α ∷ m.β ∷ x ∷ y ∷ z ∷ []

    sum_nn : pos 0 ≤ℤ x → pos 0 ≤ℤ y → pos 0 ≤ℤ z
    sum_nn hx hy =
        ge_by ρ (po (var 0) m.k⁺) nought (var 5)
        (po (var 1) m.α⁺ ⊠ nn (var 3) hx ⊞ po (var 2) m.β⁺ ⊠ nn (var 4) hy ⊞ eq (con (pos 1)) (var 0 ⊗ var 5) (var 1 ⊗ var 3 ⊕ var 2 ⊗ var 4) is) tt

    sum_pos : pos 0 <ℤ x → pos 0 ≤ℤ y → pos 0 <ℤ z
    sum_pos hx hy =
        gt_by ρ (po (var 0) m.k⁺) nought (var 5)
        (po (var 1) m.α⁺ ⊠ po (var 3) hx ⊞ po (var 2) m.β⁺ ⊠ nn (var 4) hy ⊞ eq (con (pos 1)) (var 0 ⊗ var 5) (var 1 ⊗ var 3 ⊕ var 2 ⊗ var 4) is) tt

  pub between_proper : Proper u → Proper v → Proper c
  between_proper hu hv = sum_pos u.W v.W c.W m.is_w hu (<→≤ hv)

  pub between_left_on : {x y : Point} → LeftOn x y u → LeftOn x y v → LeftOn x y c
  between_left_on {x} {y} hu hv = record { left_on = sum_nn (det x y u) (det x y v) (det x y c) (between_value (through x y)) hu.left_on hv.left_on }

  pub between_left₁ : {x y : Point} → Left x y u → LeftOn x y v → Left x y c
  between_left₁ {x} {y} hu hv = record { left = sum_pos (det x y u) (det x y v) (det x y c) (between_value (through x y)) hu.left hv.left_on }

pub between_left₂ : {u v c : Point} → Between u v c → {x y : Point} → LeftOn x y u → Left x y v → Left x y c
between_left₂ m hu hv = between_left₁ (flip m) hv hu
