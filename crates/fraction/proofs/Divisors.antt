-- Divisors: what divides two numbers divides every mixture of them. On that one law stand each step of Euclid's rule and Bézout's mixture.
use mathlib.Core.Path.{◌≡◌, refl, sym, ap, ◌∙◌, subst}
use mathlib.Core.List.{[], ◌∷◌}
use Prim.Native.Nat.{ℕ, zero, suc, ◌*◌, ◌/◌, ◌%◌, ◌<◌, ◌≤◌}
use native.Mathlib.Nat.{mod-lt, mul-div_cancel_left}
use native.Mathlib.Omega.{arith}
use lib.IntN.{ℤ, pos, negsuc, neg_ℤ, nat_abs, ◌+ℤ◌, ◌-ℤ◌, ◌*ℤ◌}
use lib.Signed.{◌≤ℤ◌, ◌<ℤ◌, quot_z}
use Rattle.whole.proofs.Expressions.{var, con, ◌⊕◌, ◌⊖◌, ◌⊗◌, neg, x0, x1, x2, x3}
use Rattle.whole.proofs.Polynomials.{ring}
use Rattle.whole.proofs.Order.{zarith, cancel_pos}
use Rattle.whole.proofs.Certificates.{ge, clash, eqn, ◌⊹◌, eq_by, eq, po, le, ◌⊞◌, ◌⊠◌}
use Rattle.whole.proofs.Division.{abs_neg, quot_rem}
use Rattle.fraction.specs.Fraction.{Divides, GreatestCommon}

pub divides_self : (g : ℕ) → Divides g (pos g)
divides_self g = record { times = pos 1; is = ring ((pos g) ∷ []) x0 (x0 ⊗ con (pos 1)) tt }

divides_zero : (g : ℕ) → Divides g (pos 0)
divides_zero g = record { times = pos 0; is = ring ((pos g) ∷ []) (con (pos 0)) (x0 ⊗ con (pos 0)) tt }

-- what divides x and y divides x·u + y·v
pub divides_mix : {g : ℕ} {x y z : ℤ} (u v : ℤ) → Divides g x → Divides g y → z ≡ x *ℤ u +ℤ y *ℤ v → Divides g z
divides_mix {g} {x} {y} {z} u v p q e = record {
  times = p.times *ℤ u +ℤ q.times *ℤ v;
  is =
      e ∙ eq_by (x ∷ y ∷ u ∷ v ∷ (pos g) ∷ p.times ∷ q.times ∷ [])
      (x0 ⊗ x2 ⊕ x1 ⊗ x3) (var 4 ⊗ (var 5 ⊗ x2 ⊕ var 6 ⊗ x3))
      (eqn x2 x0 (var 4 ⊗ var 5) p.is ⊹ eqn x3 x1 (var 4 ⊗ var 6) q.is) tt;
}

-- ---- the size has the same divisors
divides_neg : {g : ℕ} {x : ℤ} → Divides g x → Divides g (neg_ℤ x)
divides_neg {g} {x} p = divides_mix (negsuc 0) (pos 0) p p (ring (x ∷ []) (neg x0) (x0 ⊗ con (negsuc 0) ⊕ x0 ⊗ con (pos 0)) tt)

pub divides_abs : {g : ℕ} {x : ℤ} → Divides g x → Divides g (pos (nat_abs x))
divides_abs {g} {x = pos n} p = p
divides_abs {g} {x = negsuc n} p = divides_neg p

pub abs_divides : {g : ℕ} (x : ℤ) → Divides g (pos (nat_abs x)) → Divides g x
abs_divides (pos n) p = p
abs_divides (negsuc n) p = divides_neg p

-- ---- a divisor of a positive number is positive and not above it
pub divisor_positive : {g : ℕ} {z : ℤ} → pos 0 <ℤ z → Divides g z → 0 < g
divisor_positive {g = zero} {z} h p = absurd (clash (z ∷ p.times ∷ []) (po x0 h ⊞ eq (con (negsuc 0)) x0 (con (pos 0) ⊗ x1) p.is) tt)
divisor_positive {g = suc g} {z} h p = omega arith

pub multiple-≥ : {d e : ℤ} (k : ℤ) → pos 0 <ℤ d → pos 0 <ℤ e → e ≡ d *ℤ k → d ≤ℤ e
multiple-≥ {d} {e} k hd he q =
    let p : pos 0 <ℤ k = cancel_pos {c = d} hd (subst (λ (z : ℤ). pos 0 <ℤ z) q he) in
    let l : pos 1 ≤ℤ k = omega zarith in
    ge (d ∷ e ∷ k ∷ []) x0 x1 (po x0 hd ⊠ le (con (pos 1)) x2 l ⊞ eq (con (pos 1)) x1 (x0 ⊗ x2) q) tt

pub divisor-≤ : {g : ℕ} {z : ℤ} → pos 0 <ℤ z → Divides g z → pos g ≤ℤ z
divisor-≤ h p = let g = divisor_positive h p in multiple-≥ p.times (omega zarith) h p.is

pub divides_one : {g : ℕ} → Divides g (pos 1) → g ≡ 1
divides_one p =
    let one : pos 0 <ℤ pos 1 = omega zarith in
    let l = divisor_positive one p in
    let h = divisor-≤ one p in
    omega zarith

-- ---- a quotient without remainder
abs_multiple : {g : ℕ} {x : ℤ} (p : Divides g x) → nat_abs x ≡ g * nat_abs p.times
abs_multiple {g} {x} p = ap nat_abs p.is ∙ size p.times
  where
    size : (k : ℤ) → nat_abs (pos g *ℤ k) ≡ g * nat_abs k
    size (pos k) = refl
    size (negsuc k) = abs_neg (pos (g * suc k))

exact : {a g : ℕ} (k : ℕ) → 0 < g → a ≡ g * k → a ≡ g * (a / g)
exact {a} {g} k h e = e ∙ ap (λ (n : ℕ). g * n) (sym (ap (λ (n : ℕ). n / g) e ∙ mul-div_cancel_left k h))

pub quot_exact : (x : ℤ) {g : ℕ} → 0 < g → Divides g x → x ≡ pos g *ℤ quot_z x (pos g)
quot_exact (pos a) h p = ap pos (exact (nat_abs p.times) h (abs_multiple p))
quot_exact (negsuc a) {g} h p = ap (λ (n : ℕ). neg_ℤ (pos n)) (exact (nat_abs p.times) h (abs_multiple p))
    ∙ ring ((pos g) ∷ (pos (suc a / g)) ∷ []) (neg (x0 ⊗ x1)) (x0 ⊗ neg x1) tt

-- ---- one step of Euclid's rule, both ways
euclid_down : {g a b : ℕ} → Divides g (pos a) → Divides g (pos b) → Divides g (pos (a % b))
euclid_down {g} {a} {b} p q = divides_mix (pos 1) (neg_ℤ (pos (a / b))) p q
    (eq_by ((pos a) ∷ (pos b) ∷ (pos (a / b)) ∷ (pos (a % b)) ∷ []) x3 (x0 ⊗ con (pos 1) ⊕ x1 ⊗ neg x2)
    (eqn (con (negsuc 0)) x0 (x1 ⊗ x2 ⊕ x3) (quot_rem (pos a) (pos b))) tt)

euclid_up : {g a b : ℕ} → Divides g (pos b) → Divides g (pos (a % b)) → Divides g (pos a)
euclid_up {g} {a} {b} q r = divides_mix (pos (a / b)) (pos 1) q r
    (eq_by ((pos a) ∷ (pos b) ∷ (pos (a / b)) ∷ (pos (a % b)) ∷ []) x0 (x1 ⊗ x2 ⊕ x3 ⊗ con (pos 1))
    (eqn (con (pos 1)) x0 (x1 ⊗ x2 ⊕ x3) (quot_rem (pos a) (pos b))) tt)

-- what divides both numbers of one pair divides both of the other
pub record SameDivisors (a b m n : ℕ) : Type 0 where
  pub down : (g : ℕ) → Divides g (pos m) → Divides g (pos n) → Divides g (pos a) × Divides g (pos b)
  pub up : (g : ℕ) → Divides g (pos a) → Divides g (pos b) → Divides g (pos m) × Divides g (pos n)

pub same_start : (a b : ℕ) → SameDivisors a b a b
same_start a b = record { down = λ g p q. (p, q); up = λ g p q. (p, q) }

pub same_step : {a b m n : ℕ} → SameDivisors a b m n → SameDivisors a b n (m % n)
same_step {a} {b} {m} {n} s = record {
  down = λ g p q. s.down g (euclid_up {a = m} p q) p;
  up = λ g p q. let r = s.up g p q in (r.1, euclid_down r.0 r.1);
}

pub same_end : {a b m : ℕ} → SameDivisors a b m 0 → GreatestCommon a b m
same_end s = record { both = λ g p. s.down g p (divides_zero g); most = λ g p q. (s.up g p q).0 }

-- in either order
pub common_swap : {a b g : ℕ} → GreatestCommon a b g → GreatestCommon b a g
common_swap h = record { both = λ k p. let r = h.both k p in (r.1, r.0); most = λ k p q. h.most k q p }

-- the greatest common divisor of one pair is that of the other
pub same_common : {a b m n g : ℕ} → SameDivisors a b m n → GreatestCommon m n g → GreatestCommon a b g
same_common s h = record {
  both = λ k p. let r = h.both k p in s.down k r.0 r.1;
  most = λ k p q. let r = s.up k p q in h.most k r.0 r.1;
}

-- ---- Bézout: some mixture of two numbers divides both
pub record Bezout (x y : ℤ) : Type 0 where
  pub g : ℕ
  pub u : ℤ
  pub v : ℤ
  pub is : pos g ≡ u *ℤ x +ℤ v *ℤ y
  pub left : Divides g x
  pub right : Divides g y

bezout_zero : (a : ℕ) → Bezout (pos a) (pos 0)
bezout_zero a = record {
  g = a;
  u = pos 1;
  v = pos 0;
  is = ring ((pos a) ∷ []) x0 (con (pos 1) ⊗ x0 ⊕ con (pos 0) ⊗ con (pos 0)) tt;
  left = divides_self a;
  right = divides_zero a;
}

bezout_step : (a b : ℕ) → Bezout (pos b) (pos (a % b)) → Bezout (pos a) (pos b)
bezout_step a b r = record {
  g = r.g;
  u = r.v;
  v = r.u -ℤ r.v *ℤ pos (a / b);
  is =
      eq_by ((pos r.g) ∷ r.u ∷ r.v ∷ (pos a) ∷ (pos b) ∷ (pos (a / b)) ∷ (pos (a % b)) ∷ [])
      x0 (x2 ⊗ x3 ⊕ (x1 ⊖ x2 ⊗ var 5) ⊗ var 4)
      (eqn (con (pos 1)) x0 (x1 ⊗ var 4 ⊕ x2 ⊗ var 6) r.is ⊹ eqn (neg x2) x3 (var 4 ⊗ var 5 ⊕ var 6) (quot_rem (pos a) (pos b))) tt;
  left = euclid_up {a = a} r.left r.right;
  right = r.left;
}

-- by Euclid's rule: the second number falls, and is at most k
bezout_in : (k a b : ℕ) → b ≤ k → Bezout (pos a) (pos b)
bezout_in zero a b h = let e : 0 ≡ b = omega arith in subst (λ (n : ℕ). Bezout (pos a) (pos n)) e (bezout_zero a)
bezout_in (suc k) a b h = go b h (λ x y l. bezout_in k x y l)
  where
    go : (b : ℕ) → b ≤ suc k → ((x y : ℕ) → y ≤ k → Bezout (pos x) (pos y)) → Bezout (pos a) (pos b)
    go zero h f = bezout_zero a
    go (suc b) h f = bezout_step a (suc b) (f (suc b) (a % suc b) (omega (arith, mod-lt a {m = suc b} (omega arith))))

pub bezout : (x y : ℤ) → pos 0 <ℤ y → Bezout x y
bezout (pos a) (pos b) h = bezout_in b a b (omega arith)
bezout (negsuc a) (pos b) h =
    let r = bezout_in b (suc a) b (omega arith) in record {
      g = r.g;
      u = neg_ℤ r.u;
      v = r.v;
      is = r.is ∙ ring (r.u ∷ r.v ∷ (pos (suc a)) ∷ (pos b) ∷ []) (x0 ⊗ x2 ⊕ x1 ⊗ x3) (neg x0 ⊗ neg x2 ⊕ x1 ⊗ x3) tt;
      left = divides_neg r.left;
      right = r.right;
    }
bezout x (negsuc b) h = absurd h.lt
