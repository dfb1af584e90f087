-- The side of a shortening is the least that fixes the new end: there the stroke crosses it, and at the old end the sides of lower numbers were met.
use mathlib.Core.Path.{◌≡◌}
use mathlib.Core.Logic.{⊎_elim}
use mathlib.Core.List.{[], ◌∷◌}
use Prim.Native.Nat.{◌<◌}
use native.Mathlib.Omega.{arith}
use lib.IntN.{ℤ, pos, neg_ℤ, ◌*ℤ◌}
use lib.Signed.{◌≤ℤ◌, ◌<ℤ◌}
use Rattle.whole.proofs.Certificates.{ge, gt_by, clash, eq, eqn, eq_by, po, nn, le, lt, ◌⊞◌, ◌⊠◌}
use Rattle.whole.proofs.Expressions.{Expr, var, con, ◌⊕◌, ◌⊗◌, neg, x0, x1, x2, x3}
use Rattle.whole.proofs.Order.{≤_total}
use Rattle.fraction.specs.declared.Fraction.{Fraction}
use Rattle.grid.specs.declared.Stroke.{Stroke}
use Rattle.grid.specs.declared.Window.{Window}
use Rattle.grid.specs.Sides.{Side, left, right, bottom, top, place_of}
use Rattle.spans.specs.Sides.{Condition, Inward, Outward, Fixes, FirstOf, here, later, StartSide, EndSide}
use Rattle.spans.proofs.Sides.{not_inward, not_outward}
use Rattle.strokes.specs.Sides.{condition, conditions, side_p, side_q}
use Rattle.codes.specs.Codes.{shorten_start, shorten_end}
use Rattle.codes.specs.Steps.{decided, OnLine}
use Rattle.codes.proofs.Decided.{start_beyond, end_beyond, start_lower, end_lower}
use Rattle.codes.proofs.Forms.{form, ◌≼◌, beyond_form, inside_form, on_form}
use Rattle.codes.proofs.Shortenings.{Ordered}

-- ---- the first of the four sides of which P holds
first_at : (w : Window) (s : Stroke) (P : Condition → Type 0) (k : Side) → P (condition w s k)
    → ((j : Side) → place_of j < place_of k → P (condition w s j) → ⊥) → FirstOf P (conditions w s) (place_of k)
first_at w s P left p n = here p
first_at w s P right p n = later (n left (omega arith)) (here p)
first_at w s P bottom p n = later (n left (omega arith)) (later (n right (omega arith)) (here p))
first_at w s P top p n = later (n left (omega arith)) (later (n right (omega arith)) (later (n bottom (omega arith)) (here p)))

-- ---- a condition p·t ≤ q at two fractions x ≼ y, by its form
abbrev P : Expr
P = var 4

abbrev Q : Expr
Q = var 5

abbrev at : Expr → Expr → Expr
at n d = P ⊗ n ⊕ neg Q ⊗ d

module _ (p q : ℤ) (x y : Fraction) (hx : pos 0 <ℤ x.den) (hy : pos 0 <ℤ y.den) (o : x ≼ y) where
  -- beyond first, and not later
  falls : pos 0 <ℤ form p (neg_ℤ q) x → form p (neg_ℤ q) y ≤ℤ pos 0 → Inward p
  falls b i = ⊎_elim
      (λ h. absurd (clash (x.num ∷ x.den ∷ y.num ∷ y.den ∷ p ∷ q ∷ [])
      (po x3 hy ⊠ po (at x0 x1) b ⊞ po x1 hx ⊠ le (at x2 x3) (con (pos 0)) i ⊞ nn P h ⊠ le (x0 ⊗ x3) (x2 ⊗ x1) o) tt))
      (λ h. h) (≤_total (pos 0) p)

  -- not beyond first, and later
  rises : form p (neg_ℤ q) x ≤ℤ pos 0 → pos 0 <ℤ form p (neg_ℤ q) y → Outward p
  rises i b = ⊎_elim
      (λ h. absurd (clash (x.num ∷ x.den ∷ y.num ∷ y.den ∷ p ∷ q ∷ [])
      (po x1 hx ⊠ po (at x2 x3) b ⊞ po x3 hy ⊠ le (at x0 x1) (con (pos 0)) i ⊞ le P (con (pos 0)) h ⊠ le (x0 ⊗ x3) (x2 ⊗ x1) o) tt))
      (λ h. h) (≤_total p (pos 0))

-- x is beyond, y is on the line
module _ (p q : ℤ) (x y : Fraction) (b : pos 0 <ℤ form p (neg_ℤ q) x) (on : form p (neg_ℤ q) y ≡ pos 0) (hx : pos 0 <ℤ x.den) (hy : pos 0 <ℤ y.den) where
  is_later : Inward p → (x.num *ℤ y.den) <ℤ (y.num *ℤ x.den)
  is_later h = gt_by (x.num ∷ x.den ∷ y.num ∷ y.den ∷ p ∷ q ∷ []) (lt P (con (pos 0)) h) (x0 ⊗ x3) (x2 ⊗ x1)
      (po x3 hy ⊠ po (at x0 x1) b ⊞ eq (neg x1) (at x2 x3) (con (pos 0)) on) tt

  is_sooner : Outward p → (y.num *ℤ x.den) <ℤ (x.num *ℤ y.den)
  is_sooner h = gt_by (x.num ∷ x.den ∷ y.num ∷ y.den ∷ p ∷ q ∷ []) (po P h) (x2 ⊗ x1) (x0 ⊗ x3)
      (po x3 hy ⊠ po (at x0 x1) b ⊞ eq (neg x1) (at x2 x3) (con (pos 0)) on) tt

module _ (p q : ℤ) (x : Fraction) where
  met : form p (neg_ℤ q) x ≤ℤ pos 0 → (p *ℤ x.num) ≤ℤ (q *ℤ x.den)
  met h = ge (x.num ∷ x.den ∷ p ∷ q ∷ []) (x2 ⊗ x0) (x3 ⊗ x1) (le (x2 ⊗ x0 ⊕ neg x3 ⊗ x1) (con (pos 0)) h) tt

  on_line : form p (neg_ℤ q) x ≡ pos 0 → p *ℤ x.num ≡ q *ℤ x.den
  on_line e = eq_by (x.num ∷ x.den ∷ p ∷ q ∷ []) (x2 ⊗ x0) (x3 ⊗ x1) (eqn (con (pos 1)) (x2 ⊗ x0 ⊕ neg x3 ⊗ x1) (con (pos 0)) e) tt

-- ---- a shortening of the part from f to g at the side k leaves c for one of its ends
module _ (w : Window) (s : Stroke) {f g : Fraction} (c : Fraction) (k : Side) (o : Ordered f g) (line : OnLine w s k c) where
  abbrev p : ℤ
  p = side_p s k

  abbrev q : ℤ
  q = side_q w s k

  pub start_named : decided w s f g ≡ shorten_start (place_of k) → StartSide (conditions w s) c (place_of k)
  start_named e =
      let b = start_beyond w s f g k e in
      let on = on_form w s k c line.on in
      let in_p = falls p q f g o.proper.den0 o.proper.den1 o.order (beyond_form w s k f b.0) (inside_form w s k g b.1) in
      let l = is_later p q f c (beyond_form w s k f b.0) on o.proper.den0 line.den in_p in record {
        remains = λ z. absurd (clash (f.num ∷ f.den ∷ c.num ∷ c.den ∷ [])
            (lt (x0 ⊗ x3) (x2 ⊗ x1) l ⊞ nn x0 o.proper.low ⊠ po x3 line.den ⊞ eq (neg x1) x2 (con (pos 0)) z) tt);
        fixed = λ _.
            first_at w s (Fixes Inward c) k (record { crosses = in_p; on = on_line p q c on })
            (λ j h x.
            not_inward f c o.proper.den0 line.den (met (side_p s j) (side_q w s j) f (inside_form w s j f (start_lower w s f g k e j h))) l x);
      }

  pub end_named : decided w s f g ≡ shorten_end (place_of k) → EndSide (conditions w s) c (place_of k)
  end_named e =
      let b = end_beyond w s f g k e in
      let on = on_form w s k c line.on in
      let out_p = rises p q f g o.proper.den0 o.proper.den1 o.order (inside_form w s k f b.0) (beyond_form w s k g b.1) in
      let l = is_sooner p q g c (beyond_form w s k g b.1) on o.proper.den1 line.den out_p in record {
        remains = λ z. absurd (clash (g.num ∷ g.den ∷ c.num ∷ c.den ∷ [])
            (lt (x2 ⊗ x1) (x0 ⊗ x3) l ⊞ le x0 x1 o.proper.high ⊠ po x3 line.den ⊞ eq x1 x2 x3 z) tt);
        fixed = λ _.
            first_at w s (Fixes Outward c) k (record { crosses = out_p; on = on_line p q c on })
            (λ j h x.
            not_outward g c o.proper.den1 line.den (met (side_p s j) (side_q w s j) g (inside_form w s j g (end_lower w s f g k e j h))) l x);
      }
