-- Lowest terms: both numbers divided by their greatest common divisor. By Bézout a denominator in lowest terms divides every denominator of an equal fraction,
-- so equal fractions in lowest terms are the same two numbers.
use mathlib.Core.Path.{◌≡◌, sym, ap, ◌∙◌, subst}
use mathlib.Core.List.{[], ◌∷◌}
use Prim.Native.Nat.{ℕ, suc, ◌*◌, ◌<◌}
use native.Mathlib.Nat.{div-one}
use lib.IntN.{ℤ, pos, negsuc, neg_ℤ, nat_abs, ◌+ℤ◌, ◌*ℤ◌}
use lib.Signed.{◌≤ℤ◌, ◌<ℤ◌, quot_z}
use Rattle.whole.proofs.Expressions.{var, con, ◌⊕◌, ◌⊗◌, neg, x0, x1, x2, x3}
use Rattle.whole.proofs.Order.{zarith, ≤_antisym, cancel_pos}
use Rattle.whole.proofs.Certificates.{eqn, ◌⊹◌, eq_by, eq_cancel, po}
use Rattle.fraction.specs.Fraction.{Divides, GreatestCommon, Lowest, LowestOf}
use Rattle.fraction.specs.declared.Fraction.{Fraction}
use Rattle.fraction.proofs.Divisors.{divides_self, divides_abs, abs_divides, divisor_positive, divisor-≤, divides_one, multiple-≥, quot_exact, bezout}

-- ---- one fraction, one pair of numbers
-- the denominator in lowest terms divides that of every equal fraction m/e
den_divides : {f : Fraction} (m e : ℤ) → Lowest f → f.num *ℤ e ≡ m *ℤ f.den → (k : ℤ) × (e ≡ f.den *ℤ k)
den_divides {f} m e l c =
    let b = bezout f.num f.den l.positive in
    let one : pos 1 ≡ b.u *ℤ f.num +ℤ b.v *ℤ f.den = sym (ap pos (l.only_one b.g b.left b.right)) ∙ b.is in (
      b.u *ℤ m +ℤ b.v *ℤ e,
      eq_by (f.num ∷ f.den ∷ m ∷ e ∷ b.u ∷ b.v ∷ []) x3 (x1 ⊗ (var 4 ⊗ x2 ⊕ var 5 ⊗ x3))
          (eqn x3 (con (pos 1)) (var 4 ⊗ x0 ⊕ var 5 ⊗ x1) one ⊹ eqn (var 4) (x0 ⊗ x3) (x2 ⊗ x1) c) tt,
    )

-- so it is the least
least : {f : Fraction} {e : ℤ} (m : ℤ) → Lowest f → pos 0 <ℤ e → f.num *ℤ e ≡ m *ℤ f.den → f.den ≤ℤ e
least {f} {e} m l h c = let k = den_divides m e l c in multiple-≥ k.0 l.positive h k.1

pub lowest_least : {n d : ℤ} {f : Fraction} → pos 0 <ℤ d → LowestOf n d f → f.den ≤ℤ d
lowest_least {n} h l = least n l.lowest h l.same

pub lowest_unique : (f g : Fraction) → Lowest f → Lowest g → f.num *ℤ g.den ≡ g.num *ℤ f.den → f ≡ g
lowest_unique f g p q c =
    let den : f.den ≡ g.den = ≤_antisym (least g.num p q.positive c) (least f.num q p.positive (sym c)) in
    let num : f.num ≡ g.num = eq_cancel (f.num ∷ f.den ∷ g.num ∷ g.den ∷ []) (po x1 p.positive) x0 x2
    (eqn (con (pos 1)) (x0 ⊗ x3) (x2 ⊗ x1) c ⊹ eqn x0 x1 x3 den) tt in
    λ i. record { num = num i; den = den i }

pub lowest_of_unique : {n d : ℤ} {f g : Fraction} → pos 0 <ℤ d → LowestOf n d f → LowestOf n d g → f ≡ g
lowest_of_unique {n} {d} {f} {g} h p q = lowest_unique f g p.lowest q.lowest
    (eq_cancel (n ∷ d ∷ f.num ∷ f.den ∷ g.num ∷ g.den ∷ []) (po x1 h) (x2 ⊗ var 5) (var 4 ⊗ x3)
    (eqn (var 5) (x2 ⊗ x1) (x0 ⊗ x3) p.same ⊹ eqn (neg x3) (var 4 ⊗ x1) (x0 ⊗ var 5) q.same) tt)

-- a whole number
pub lowest_over_one : (n : ℤ) → Lowest (record { num = n; den = pos 1 })
lowest_over_one n = record { positive = omega zarith; only_one = λ g p q. divides_one q }

-- ---- to lowest terms
pub record Reduction (n d : ℤ) (g : ℕ) : Type 0 where
  pub positive : 0 < g
  pub at_most : pos g ≤ℤ d
  pub answer : LowestOf n d (record { num = quot_z n (pos g); den = quot_z d (pos g) })

-- k divides both quotients by g: then g k divides both numbers, so it divides g, and k is 1
scaled : (g : ℕ) {x y : ℤ} {k : ℕ} → x ≡ pos g *ℤ y → Divides k y → Divides (g * k) x
scaled g {x} {y} {k} e p = record {
  times = p.times;
  is = eq_by (x ∷ y ∷ (pos g) ∷ (pos k) ∷ p.times ∷ []) x0 (x2 ⊗ x3 ⊗ var 4) (eqn (con (pos 1)) x0 (x2 ⊗ x1) e ⊹ eqn x2 x1 (x3 ⊗ var 4) p.is) tt;
}

unscaled : {g k : ℕ} → 0 < g → Divides (g * k) (pos g) → k ≡ 1
unscaled {g} {k} h p = divides_one (record {
  times = p.times;
  is = eq_cancel ((pos g) ∷ (pos k) ∷ p.times ∷ []) (po x0 (omega zarith)) (con (pos 1)) (x1 ⊗ x2) (eqn (con (pos 1)) x0 (x0 ⊗ x1 ⊗ x2) p.is) tt;
})

pub reduction : (n d : ℤ) {g : ℕ} → pos 0 <ℤ d → GreatestCommon (nat_abs n) (nat_abs d) g → Reduction n d g
reduction n d {g} h c =
    let both = c.both g (divides_self g) in
    let in_n = abs_divides n both.0 in
    let in_d = abs_divides d both.1 in
    let l : 0 < g = divisor_positive h in_d in
    let n_is = quot_exact n l in_n in
    let d_is = quot_exact d l in_d in
    record {
      positive = l;
      at_most = divisor-≤ h in_d;
      answer = record {
        lowest = record {
          positive = cancel_pos {c = pos g} (omega zarith) (subst (λ (z : ℤ). pos 0 <ℤ z) d_is h);
          only_one = λ k p q. unscaled l (c.most (g * k) (divides_abs (scaled g n_is p)) (divides_abs (scaled g d_is q)));
        };
        same = eq_by (n ∷ d ∷ (quot_z n (pos g)) ∷ (quot_z d (pos g)) ∷ (pos g) ∷ []) (x2 ⊗ x1) (x0 ⊗ x3)
            (eqn x2 x1 (var 4 ⊗ x3) d_is ⊹ eqn (neg x3) x0 (var 4 ⊗ x2) n_is) tt;
      };
    }

-- a quotient by 1
pub quot_one : (x : ℤ) → quot_z x (pos 1) ≡ x
quot_one (pos a) = ap pos (div-one a)
quot_one (negsuc a) = ap (λ (n : ℕ). neg_ℤ (pos n)) (div-one (suc a))
