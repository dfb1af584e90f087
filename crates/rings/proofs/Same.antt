-- The same point in other numbers lies on the same side of every line: q's W times the line's
-- value at p is p's W times its value at q. And a crossing is one point of the plane.
use mathlib.Core.Path.{◌≡◌, refl, sym, ◌∙◌}
use mathlib.Core.List.{[], ◌∷◌}
use Prim.Native.Nat.{ℕ}
use lib.Signed.{◌<ℤ◌}
use lib.IntN.{ℤ, pos, negsuc, ◌+ℤ◌, ◌-ℤ◌, ◌*ℤ◌, *ℤ_comm, *ℤ-zero}
use Rattle.whole.proofs.Expressions.{Expr, var, con, ◌⊕◌, ◌⊖◌, ◌⊗◌, neg, Env}
use Rattle.whole.proofs.Order.{mul_pos}
use Rattle.whole.proofs.Certificates.{ge_by, gt_by, le, lt, nn, po, eq, ◌⊞◌, ◌⊠◌, eq_by, eqn, ◌⊹◌, eq_cancel}
use Rattle.rings.specs.Points.{Point, Line, value, through, det, Left, LeftOn, In, Over, Out, Under, On, Real, Proper, Same}
use Rattle.rings.specs.Cuts.{Between, Crossing, Across, leaves, enters}
use Rattle.rings.proofs.Plane.{cycle, cycle_on, collinear, between_value, between_proper, x_of, y_of, w_of, with_line, value_of, det_of, nought}
use Rattle.rings.proofs.Passes.{meet, meet_crossing, flip_crossing}

pub same_refl : {p : Point} → Proper p → Same p p
same_refl w = record { first = w; second = w; x = refl; y = refl }

pub same_sym : {p q : Point} → Same p q → Same q p
same_sym s = record { first = s.second; second = s.first; x = sym s.x; y = sym s.y }

-- a/u = b/v and b/v = c/w by cross products
pub equal_equal : (u v w a b c : ℤ) → pos 0 <ℤ v → a *ℤ v ≡ b *ℤ u → b *ℤ w ≡ c *ℤ v → a *ℤ w ≡ c *ℤ u
equal_equal u v w a b c hv h k =
    eq_cancel (u ∷ v ∷ w ∷ a ∷ b ∷ c ∷ []) (po (var 1) hv) (var 3 ⊗ var 2) (var 5 ⊗ var 0)
    (eqn (var 2) (var 3 ⊗ var 1) (var 4 ⊗ var 0) h ⊹ eqn (var 0) (var 4 ⊗ var 2) (var 5 ⊗ var 1) k) tt

pub same_trans : {p q r : Point} → Same p q → Same q r → Same p r
same_trans {p} {q} {r} s t = record {
  first = s.first;
  second = t.second;
  x = equal_equal p.W q.W r.W p.X q.X r.X s.second s.x t.x;
  y = equal_equal p.W q.W r.W p.Y q.Y r.Y s.second s.y t.y;
}

-- ---- the same side of every line
module _ {p q : Point} (s : Same p q) (h : Line) where
  scaled : q.W *ℤ value h p ≡ p.W *ℤ value h q
  unfolding value
  scaled =
      eq_by (with_line h (p ∷ q ∷ [])) (w_of 2 ⊗ value_of 0 1) (w_of 1 ⊗ value_of 0 2)
      (eqn (x_of 0) (x_of 1 ⊗ w_of 2) (x_of 2 ⊗ w_of 1) s.x ⊹ eqn (y_of 0) (y_of 1 ⊗ w_of 2) (y_of 2 ⊗ w_of 1) s.y) tt

  abbrev ρ : Env
  ρ = p.W ∷ q.W ∷ value h p ∷ value h q ∷ []

  pub same_in : In h p → In h q
  same_in k = ge_by ρ (po (var 0) s.first) nought (var 3) (po (var 1) s.second ⊠ nn (var 2) k ⊞ eq (con (negsuc 0)) (var 1 ⊗ var 2) (var 0 ⊗ var 3) scaled) tt

  pub same_over : Over h p → Over h q
  same_over k = gt_by ρ (po (var 0) s.first) nought (var 3) (po (var 1) s.second ⊠ po (var 2) k ⊞ eq (con (negsuc 0)) (var 1 ⊗ var 2) (var 0 ⊗ var 3) scaled) tt

  pub same_under : Under h p → Under h q
  same_under k =
      ge_by ρ (po (var 0) s.first) (var 3) nought (po (var 1) s.second ⊠ le (var 2) nought k ⊞ eq (con (pos 1)) (var 1 ⊗ var 2) (var 0 ⊗ var 3) scaled) tt

  pub same_out : Out h p → Out h q
  same_out k = gt_by ρ (po (var 0) s.first) (var 3) nought (po (var 1) s.second ⊠ lt (var 2) nought k ⊞ eq (con (pos 1)) (var 1 ⊗ var 2) (var 0 ⊗ var 3) scaled) tt

  pub same_on : On h p → On h q
  same_on k = eq_cancel ρ (po (var 0) s.first) (var 3) nought (eqn (var 1) (var 2) nought k ⊹ eqn (con (negsuc 0)) (var 1 ⊗ var 2) (var 0 ⊗ var 3) scaled) tt

module _ {a b p q : Point} (s : Same p q) where
  pub same_third : Left a b p → Left a b q
  same_third h = record { left = same_over s (through a b) h.left }

  pub same_first : Left p a b → Left q a b
  same_first h = cycle (cycle (same_third (cycle h)))

  same_third_on : LeftOn a b p → LeftOn a b q
  same_third_on h = record { left_on = same_in s (through a b) h.left_on }

module _ {a a' b b' : Point} (s : Same a a') (t : Same b b') where
  pub same_left : {c c' : Point} → Same c c' → Left a b c → Left a' b' c'
  same_left u h = cycle (same_third t (cycle (same_third s (cycle (same_third u h)))))

  pub same_edge : {p : Point} → LeftOn a b p → LeftOn a' b' p
  same_edge h = cycle_on (same_third_on t (cycle_on (same_third_on s (cycle_on h))))

-- ---- crossings
module _ {h : Line} {u u' v v' : Point} (s : Same u u') (t : Same v v') where
  pub same_across : Across h u v → Across h u' v'
  same_across (leaves a b) = leaves (same_over s h a) (same_out t h b)
  same_across (enters a b) = enters (same_out s h a) (same_over t h b)

  pub same_crossing : {c c' : Point} → Same c c' → Crossing h u v c → Crossing h u' v' c'
  same_crossing {c} {c'} r x = record {
    between = record {
      k = m.k *ℤ u'.W *ℤ v'.W *ℤ c.W;
      α = m.α *ℤ v'.W *ℤ c'.W *ℤ u.W;
      β = m.β *ℤ u'.W *ℤ c'.W *ℤ v.W;
      k⁺ = mul_pos (mul_pos (mul_pos m.k⁺ s.second) t.second) r.first;
      α⁺ = mul_pos (mul_pos (mul_pos m.α⁺ t.second) r.second) s.first;
      β⁺ = mul_pos (mul_pos (mul_pos m.β⁺ s.second) r.second) t.first;
      is_x = sum u.X u'.X v.X v'.X c.X c'.X s.x t.x r.x m.is_x;
      is_y = sum u.Y u'.Y v.Y v'.Y c.Y c'.Y s.y t.y r.y m.is_y;
      is_w = sum u.W u'.W v.W v'.W c.W c'.W (*ℤ_comm u.W u'.W) (*ℤ_comm v.W v'.W) (*ℤ_comm c.W c'.W) m.is_w;
    };
    on = same_on r h x.on;
  }
    where
      m : Between u v c
      m = x.between

      sum : (a a' b b' d d' : ℤ) → a *ℤ u'.W ≡ a' *ℤ u.W → b *ℤ v'.W ≡ b' *ℤ v.W → d *ℤ c'.W ≡ d' *ℤ c.W → m.k *ℤ d ≡ m.α *ℤ a +ℤ m.β *ℤ b
          → m.k *ℤ u'.W *ℤ v'.W *ℤ c.W *ℤ d' ≡ m.α *ℤ v'.W *ℤ c'.W *ℤ u.W *ℤ a' +ℤ m.β *ℤ u'.W *ℤ c'.W *ℤ v.W *ℤ b'
      sum a a' b b' d d' ea eb ed e =
          let k : Expr = var 0 in
          let α : Expr = var 1 in
          let β : Expr = var 2 in
          eq_by (m.k ∷ m.α ∷ m.β ∷ a ∷ a' ∷ u.W ∷ u'.W ∷ b ∷ b' ∷ v.W ∷ v'.W ∷ d ∷ d' ∷ c.W ∷ c'.W ∷ [])
          (k ⊗ var 6 ⊗ var 10 ⊗ var 13 ⊗ var 12) (α ⊗ var 10 ⊗ var 14 ⊗ var 5 ⊗ var 4 ⊕ β ⊗ var 6 ⊗ var 14 ⊗ var 9 ⊗ var 8)
          (eqn (var 6 ⊗ var 10 ⊗ var 14) (k ⊗ var 11) (α ⊗ var 3 ⊕ β ⊗ var 7) e
          ⊹ eqn (neg (k ⊗ var 6 ⊗ var 10)) (var 11 ⊗ var 14) (var 12 ⊗ var 13) ed ⊹ eqn (α ⊗ var 10 ⊗ var 14) (var 3 ⊗ var 6) (var 4 ⊗ var 5) ea
          ⊹ eqn (β ⊗ var 6 ⊗ var 14) (var 7 ⊗ var 10) (var 8 ⊗ var 9) eb) tt

-- two crossings are the same point: each is h(u)·v − h(v)·u
module _ (h : Line) (u v : Point) (wu : Proper u) (wv : Proper v) where
  meet_proper : Over h u → Out h v → Proper (meet h u v)
  meet_proper hu hv = between_proper (meet_crossing h u v hu hv).between wu wv

  crossing_meet : {c : Point} → Over h u → Out h v → Crossing h u v c → Same c (meet h u v)
  unfolding meet
  crossing_meet {c} hu hv x = record {
    first = between_proper m wu wv;
    second = meet_proper hu hv;
    x = parallel u.X v.X c.X m.is_x;
    y = parallel u.Y v.Y c.Y m.is_y;
  }
    where
      m : Between u v c
      m = x.between

      zero : m.α *ℤ value h u +ℤ m.β *ℤ value h v ≡ pos 0
      zero = sym (between_value m h) ∙ (λ i. m.k *ℤ x.on i) ∙ *ℤ-zero m.k

      parallel : (a b d : ℤ) → m.k *ℤ d ≡ m.α *ℤ a +ℤ m.β *ℤ b → d *ℤ (value h u *ℤ v.W -ℤ value h v *ℤ u.W) ≡ (value h u *ℤ b -ℤ value h v *ℤ a) *ℤ c.W
      parallel a b d e =
          let k : Expr = var 0 in
          let α : Expr = var 1 in
          let β : Expr = var 2 in
          let hu : Expr = var 9 in
          let hv : Expr = var 10 in
          eq_cancel (m.k ∷ m.α ∷ m.β ∷ a ∷ b ∷ d ∷ u.W ∷ v.W ∷ c.W ∷ value h u ∷ value h v ∷ []) (po k m.k⁺)
          (var 5 ⊗ (hu ⊗ var 7 ⊖ hv ⊗ var 6)) ((hu ⊗ var 4 ⊖ hv ⊗ var 3) ⊗ var 8)
          (eqn (hu ⊗ var 7 ⊖ hv ⊗ var 6) (k ⊗ var 5) (α ⊗ var 3 ⊕ β ⊗ var 4) e
          ⊹ eqn (neg (hu ⊗ var 4 ⊖ hv ⊗ var 3)) (k ⊗ var 8) (α ⊗ var 6 ⊕ β ⊗ var 7) m.is_w ⊹ eqn (var 3 ⊗ var 7 ⊖ var 4 ⊗ var 6) (α ⊗ hu ⊕ β ⊗ hv) nought zero) tt

  -- and so is a point on h and on the line of u and v
  meet_line : (c : Point) → Over h u → Out h v → Proper c → det u v c ≡ pos 0 → On h c → Same (meet h u v) c
  unfolding meet value through
  meet_line c hu hv wc e k = record {
    first = meet_proper hu hv;
    second = wc;
    x = eq_by ρ (of x_of ⊗ w_of 3) (x_of 3 ⊗ of w_of) (eqn (neg (y_of 0)) (det_of 1 2 3) nought e ⊹ eqn (w_of 1 ⊗ x_of 2 ⊖ x_of 1 ⊗ w_of 2) (value_of 0 3) nought k) tt;
    y = eq_by ρ (of y_of ⊗ w_of 3) (y_of 3 ⊗ of w_of) (eqn (x_of 0) (det_of 1 2 3) nought e ⊹ eqn (w_of 1 ⊗ y_of 2 ⊖ y_of 1 ⊗ w_of 2) (value_of 0 3) nought k) tt;
  }
    where
      ρ : Env
      ρ = with_line h (u ∷ v ∷ c ∷ [])

      of : (ℕ → Expr) → Expr
      of z = value_of 0 1 ⊗ z 2 ⊖ value_of 0 2 ⊗ z 1

  meet_line_crossing : {c : Point} → Over h u → Out h v → Proper c → det u v c ≡ pos 0 → On h c → Crossing h u v c
  meet_line_crossing {c} hu hv wc e k = same_crossing (same_refl wu) (same_refl wv) (meet_line c hu hv wc e k) (meet_crossing h u v hu hv)

  same_leaving : {c d : Point} → Over h u → Out h v → Crossing h u v c → Crossing h u v d → Same c d
  same_leaving hu hv x y = same_trans (crossing_meet hu hv x) (same_sym (crossing_meet hu hv y))

pub crossings_same : {h : Line} {u v c d : Point} → Proper u → Proper v → Across h u v → Crossing h u v c → Crossing h u v d → Same c d
crossings_same {h} {u} {v} wu wv (leaves a b) x y = same_leaving h u v wu wv a b x y
crossings_same {h} {u} {v} wu wv (enters a b) x y = same_leaving h v u wv wu b a (flip_crossing x) (flip_crossing y)

-- a crossing found on any line that holds u and v
pub line_crossing : {h : Line} (l : Line) {u v c : Point} → Real l → On l u → On l v → On l c → Proper u → Proper v → Proper c → Across h u v → On h c → Crossing h u v c
line_crossing {h} l {u} {v} {c} real lu lv lc wu wv wc (leaves a b) k = meet_line_crossing h u v wu wv a b wc (collinear l real u v c lu lv lc) k
line_crossing {h} l {u} {v} {c} real lu lv lc wu wv wc (enters a b) k = flip_crossing (meet_line_crossing h v u wv wu b a wc (collinear l real v u c lv lu lc) k)
