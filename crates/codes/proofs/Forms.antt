-- How far the points of a stroke lie past a side is linear in the fraction.
-- So one lemma on linear forms says that a shortened end lies between the two ends, and one that what both ends have every point between them has.
use mathlib.Core.Path.{◌≡◌, sym, subst, ◌∙◌}
use mathlib.Core.Logic.{⊎_elim}
use mathlib.Core.List.{[], ◌∷◌}
use Prim.Native.Nat.{ℕ, suc}
use lib.IntN.{ℤ, pos, neg_ℤ, ◌+ℤ◌, ◌*ℤ◌}
use lib.Signed.{◌≤ℤ◌, ◌<ℤ◌}
use Rattle.whole.proofs.Certificates.{ge, ge_by, gt_by, eq_cancel, eq, eqn, po, nn, le, lt, ◌⊞◌, ◌⊠◌, ◌⊹◌}
use Rattle.whole.proofs.Expressions.{Expr, Env, var, con, ◌⊕◌, ◌⊖◌, ◌⊗◌, neg}
use Rattle.whole.proofs.Polynomials.{ring}
use Rattle.whole.proofs.Order.{≤_total, zarith}
use Rattle.fraction.specs.declared.Fraction.{Fraction}
use Rattle.grid.specs.declared.Stroke.{Stroke}
use Rattle.grid.specs.declared.Window.{Window}
use Rattle.grid.specs.Sides.{Side, left, right, bottom, top}
use Rattle.strokes.specs.Sides.{side_p, side_q}
use Rattle.codes.specs.Codes.{past}

-- a linear form at a fraction, in the numbers and as it is quoted
abbrev pub form : ℤ → ℤ → Fraction → ℤ
form u v f = u *ℤ f.num +ℤ v *ℤ f.den

abbrev at : ℕ → ℕ → Expr
at i j = var i ⊗ var j ⊕ var (suc i) ⊗ var (suc j)

abbrev naught : Expr
naught = con (pos 0)

infix 4 ◌≼◌
abbrev pub ◌≼◌ : Fraction → Fraction → Type 0
f ≼ g = (f.num *ℤ g.den) ≤ℤ (g.num *ℤ f.den)

-- ---- x is beyond a line, y is not, c lies on it: a form that is not positive at x and y is not positive at c
pub mixed : (u v : ℤ) (x y c : Fraction) → pos 0 <ℤ x.den → pos 0 <ℤ y.den → pos 0 <ℤ c.den → pos 0 <ℤ form u v x → form u v y ≤ℤ pos 0 → form u v c ≡ pos 0
    → (a b : ℤ) → form a b x ≤ℤ pos 0 → form a b y ≤ℤ pos 0 → form a b c ≤ℤ pos 0
mixed u v x y c hx hy hc beyond inside on a b p q =
    ge_by (u ∷ v ∷ a ∷ b ∷ x.num ∷ x.den ∷ y.num ∷ y.den ∷ c.num ∷ c.den ∷ [])
    (po (at 0 4) beyond ⊠ po (var 7) hy ⊞ le (at 0 6) naught inside ⊠ po (var 5) hx)
    (at 2 8)
    naught
    (po (var 9) hc ⊠ po (at 0 4) beyond ⊠ le (at 2 6) naught q ⊞ po (var 9) hc ⊠ le (at 0 6) naught inside ⊠ le (at 2 4) naught p
    ⊞ eq (var 2 ⊗ (var 6 ⊗ var 5 ⊖ var 4 ⊗ var 7)) (at 0 8) naught on)
    tt

-- two fractions on one line, which is not the whole stroke's, are one
pub same_fraction : (u v : ℤ) (x c c' : Fraction) → pos 0 <ℤ form u v x → form u v c ≡ pos 0 → form u v c' ≡ pos 0 → c.num *ℤ c'.den ≡ c'.num *ℤ c.den
same_fraction u v x c c' beyond e e' =
    eq_cancel (u ∷ v ∷ x.num ∷ x.den ∷ c.num ∷ c.den ∷ c'.num ∷ c'.den ∷ [])
    (po (at 0 2) beyond)
    (var 4 ⊗ var 7)
    (var 6 ⊗ var 5)
    (eqn (var 2 ⊗ var 7 ⊖ var 3 ⊗ var 6) (at 0 4) naught e ⊹ eqn (var 3 ⊗ var 4 ⊖ var 2 ⊗ var 5) (at 0 6) naught e')
    tt

-- ---- f ≼ t ≼ g: what both ends have t has
module _ (f t g : Fraction) (hf : pos 0 <ℤ f.den) (ht : pos 0 <ℤ t.den) (hg : pos 0 <ℤ g.den) (l : f ≼ t) (h : t ≼ g) (a b : ℤ) where
  abbrev ρ : Env
  ρ = a ∷ b ∷ f.num ∷ f.den ∷ t.num ∷ t.den ∷ g.num ∷ g.den ∷ []

  pub between-≤ : form a b f ≤ℤ pos 0 → form a b g ≤ℤ pos 0 → form a b t ≤ℤ pos 0
  between-≤ p q = ⊎_elim
      (λ s. ge_by ρ (po (var 7) hg) (at 0 4) naught (nn (var 0) s ⊠ le (var 4 ⊗ var 7) (var 6 ⊗ var 5) h ⊞ po (var 5) ht ⊠ le (at 0 6) naught q) tt)
      (λ s. ge_by ρ (po (var 3) hf) (at 0 4) naught (lt (var 0) naught s ⊠ le (var 2 ⊗ var 5) (var 4 ⊗ var 3) l ⊞ po (var 5) ht ⊠ le (at 0 2) naught p) tt)
      (≤_total (pos 0) a)

  pub between-> : pos 0 <ℤ form a b f → pos 0 <ℤ form a b g → pos 0 <ℤ form a b t
  between-> p q = ⊎_elim
      (λ s. gt_by ρ (po (var 3) hf) naught (at 0 4) (nn (var 0) s ⊠ le (var 2 ⊗ var 5) (var 4 ⊗ var 3) l ⊞ po (var 5) ht ⊠ po (at 0 2) p) tt)
      (λ s. gt_by ρ (po (var 7) hg) naught (at 0 4) (lt (var 0) naught s ⊠ le (var 4 ⊗ var 7) (var 6 ⊗ var 5) h ⊞ po (var 5) ht ⊠ po (at 0 6) q) tt)
      (≤_total (pos 0) a)

-- ---- an order of two fractions, as a form of the one
module _ (x t : Fraction) where
  abbrev σ : Env
  σ = x.num ∷ x.den ∷ t.num ∷ t.den ∷ []

  pub upto_form : x ≼ t → form t.den (neg_ℤ t.num) x ≤ℤ pos 0
  upto_form h = ge σ (var 3 ⊗ var 0 ⊕ neg (var 2) ⊗ var 1) naught (le (var 0 ⊗ var 3) (var 2 ⊗ var 1) h) tt

  pub form_upto : form t.den (neg_ℤ t.num) x ≤ℤ pos 0 → x ≼ t
  form_upto h = ge σ (var 0 ⊗ var 3) (var 2 ⊗ var 1) (le (var 3 ⊗ var 0 ⊕ neg (var 2) ⊗ var 1) naught h) tt

  pub from_form : t ≼ x → form (neg_ℤ t.den) t.num x ≤ℤ pos 0
  from_form h = ge σ (neg (var 3) ⊗ var 0 ⊕ var 2 ⊗ var 1) naught (le (var 2 ⊗ var 1) (var 0 ⊗ var 3) h) tt

  pub form_from : form (neg_ℤ t.den) t.num x ≤ℤ pos 0 → t ≼ x
  form_from h = ge σ (var 2 ⊗ var 1) (var 0 ⊗ var 3) (le (neg (var 3) ⊗ var 0 ⊕ var 2 ⊗ var 1) naught h) tt

pub ≼_refl : (t : Fraction) → t ≼ t
≼_refl t = omega zarith

-- ---- the form of a side: its condition p·t ≤ q
-- past a low side c, and past a high one, on the way from a to b: c ∷ a ∷ b ∷ n ∷ d
abbrev low : Expr
low = var 0 ⊗ var 4 ⊖ (var 1 ⊗ var 4 ⊕ var 3 ⊗ (var 2 ⊖ var 1))

abbrev high : Expr
high = var 1 ⊗ var 4 ⊕ var 3 ⊗ (var 2 ⊖ var 1) ⊖ var 0 ⊗ var 4

module _ (w : Window) (s : Stroke) where
  abbrev pub slope : Side → ℤ
  slope k = side_p s k

  abbrev pub base : Side → ℤ
  base k = neg_ℤ (side_q w s k)

  past_form : (k : Side) (f : Fraction) → past w s k f ≡ form (slope k) (base k) f
  past_form left f = ring (w.left ∷ s.x1 ∷ s.x2 ∷ f.num ∷ f.den ∷ []) low (neg (var 2 ⊖ var 1) ⊗ var 3 ⊕ neg (var 1 ⊖ var 0) ⊗ var 4) tt
  past_form right f = ring (w.right ∷ s.x1 ∷ s.x2 ∷ f.num ∷ f.den ∷ []) high ((var 2 ⊖ var 1) ⊗ var 3 ⊕ neg (var 0 ⊖ var 1) ⊗ var 4) tt
  past_form bottom f = ring (w.bottom ∷ s.y1 ∷ s.y2 ∷ f.num ∷ f.den ∷ []) low (neg (var 2 ⊖ var 1) ⊗ var 3 ⊕ neg (var 1 ⊖ var 0) ⊗ var 4) tt
  past_form top f = ring (w.top ∷ s.y1 ∷ s.y2 ∷ f.num ∷ f.den ∷ []) high ((var 2 ⊖ var 1) ⊗ var 3 ⊕ neg (var 0 ⊖ var 1) ⊗ var 4) tt

  module _ (k : Side) (f : Fraction) where
    pub beyond_form : pos 0 <ℤ past w s k f → pos 0 <ℤ form (slope k) (base k) f
    beyond_form h = subst (λ (z : ℤ). pos 0 <ℤ z) (past_form k f) h

    pub form_beyond : pos 0 <ℤ form (slope k) (base k) f → pos 0 <ℤ past w s k f
    form_beyond h = subst (λ (z : ℤ). pos 0 <ℤ z) (sym (past_form k f)) h

    pub inside_form : past w s k f ≤ℤ pos 0 → form (slope k) (base k) f ≤ℤ pos 0
    inside_form h = subst (λ (z : ℤ). z ≤ℤ pos 0) (past_form k f) h

    pub form_inside : form (slope k) (base k) f ≤ℤ pos 0 → past w s k f ≤ℤ pos 0
    form_inside h = subst (λ (z : ℤ). z ≤ℤ pos 0) (sym (past_form k f)) h

    pub on_form : past w s k f ≡ pos 0 → form (slope k) (base k) f ≡ pos 0
    on_form e = sym (past_form k f) ∙ e
