-- The coordinate at n/d of the way from a to b: lifted by an even number, rounded there and put back, as halves to even stay what they are. The
-- rounding at n/d is that at n/d in lowest terms.
use mathlib.Core.Path.{◌≡◌, ap, ◌∙◌, subst₂}
use mathlib.Core.List.{[], ◌∷◌}
use Prim.Native.Nat.{ℕ, ◌%◌}
use lib.IntN.{ℤ, pos, neg_ℤ, nat_abs, ◌+ℤ◌, ◌-ℤ◌, ◌*ℤ◌}
use lib.Signed.{◌<ℤ◌}
use Rattle.whole.specs.Rounding.{Rule, Rounds}
use Rattle.whole.proofs.Expressions.{var, ◌⊕◌, ◌⊖◌, ◌⊗◌, neg, x0, x1, x2, x3}
use Rattle.whole.proofs.Polynomials.{ring}
use Rattle.whole.proofs.Certificates.{eqn, eq_by}
use Rattle.whole.proofs.Division.{abs_neg}
use Rattle.whole.proofs.Rounding.{rounded_equal, rounded_moved, even_moved}
use Rattle.fraction.specs.Fraction.{LowestOf}
use Rattle.fraction.specs.Rounding.{along, Rounded}
use Rattle.fraction.specs.declared.Fraction.{Fraction}
pub use Rattle.whole.proofs.Rounding.{rounded_unique, rounded_exact, rounded_inside}

-- ---- at n/d of the way, and at n/d in lowest terms
along_same : {n d : ℤ} {f : Fraction} (a b : ℤ) → LowestOf n d f → along a b n d *ℤ f.den ≡ along a b f.num f.den *ℤ d
along_same {n} {d} {f} a b l =
    eq_by (a ∷ b ∷ n ∷ d ∷ f.num ∷ f.den ∷ []) ((x0 ⊗ x3 ⊕ x2 ⊗ (x1 ⊖ x0)) ⊗ var 5) ((x0 ⊗ var 5 ⊕ var 4 ⊗ (x1 ⊖ x0)) ⊗ x3)
    (eqn (x0 ⊖ x1) (var 4 ⊗ x3) (x2 ⊗ var 5) l.same) tt

pub rounded_same : {up : Rule} {n d r : ℤ} {f : Fraction} (a b : ℤ) → pos 0 <ℤ d → LowestOf n d f → Rounds up (along a b n d) d r
    → Rounds up (along a b f.num f.den) f.den r
rounded_same a b h l p = rounded_equal h l.lowest.positive (along_same a b l) p

-- ---- lifted by an even number k
abbrev pub lifted : ℤ → ℤ → ℤ → ℤ → ℤ → ℤ
lifted k a b n d = (a +ℤ k) *ℤ d +ℤ (b -ℤ a) *ℤ n

pub put_back : {d q : ℤ} (k a b n : ℤ) → nat_abs k % 2 ≡ 0 → Rounded (lifted k a b n d) d q → Rounded (along a b n d) d (q -ℤ k)
put_back {d} {q} k a b n even p =
    let ρ = a ∷ b ∷ n ∷ d ∷ q ∷ k ∷ [] in
    let x4 = var 4 in
    let x5 = var 5 in
    subst₂ (λ (x r : ℤ). Rounded x d r)
    (ring ρ (neg x5 ⊗ x3 ⊕ ((x0 ⊕ x5) ⊗ x3 ⊕ (x1 ⊖ x0) ⊗ x2)) (x0 ⊗ x3 ⊕ x2 ⊗ (x1 ⊖ x0)) tt) (ring ρ (neg x5 ⊕ x4) (x4 ⊖ x5) tt)
    (rounded_moved (neg_ℤ k) (even_moved (neg_ℤ k) (ap (λ (m : ℕ). m % 2) (abs_neg k) ∙ even)) p)
