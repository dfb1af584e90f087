-- A point of the joined window lies in one of the two, on this side of the common border or on that, and in both exactly where it is on the border.
use mathlib.Core.Path.{◌≡◌, sym}
use mathlib.Core.List.{[], ◌∷◌}
use mathlib.Core.Logic.{◌⊎◌, inl, inr, ⊎_elim, ◌↔◌}
use lib.IntN.{ℤ, pos, neg_ℤ, ◌-ℤ◌, ◌*ℤ◌}
use lib.Signed.{◌≤ℤ◌, ◌<ℤ◌}
use Rattle.whole.proofs.Certificates.{ge, gt, ge_by, clash, eq, eq_by, eqn, po, le, lt, ◌⊞◌, ◌⊠◌, ◌⊹◌}
use Rattle.whole.proofs.Expressions.{con, ◌⊕◌, ◌⊖◌, ◌⊗◌, neg, x0, x1, x2, x3, var}
use Rattle.whole.proofs.Order.{≤_total, ≤_antisym, ≡→≤, <→≤}
use Rattle.whole.proofs.Polynomials.{ring}
use Rattle.fraction.specs.declared.Fraction.{Fraction}
use Rattle.fraction.specs.Rounding.{along}
use Rattle.grid.specs.declared.Stroke.{Stroke}
use Rattle.grid.specs.declared.Window.{Window}
use Rattle.grid.specs.Sides.{left, right}
use Rattle.spans.specs.Sides.{Fixes}
use Rattle.spans.specs.Spans.{InSpan}
use Rattle.spans.specs.declared.Span.{Span}
use Rattle.strokes.specs.Sides.{dx, condition}
use Rattle.strokes.specs.Strokes.{Keeps}
use Rattle.strokes.proofs.Between.{keeps_between}
use Rattle.strokes.proofs.Coordinates.{above_low, below_high}
use Rattle.neighbours.specs.Laws.{joined}
use Rattle.neighbours.proofs.Windows.{beside}
use Rattle.neighbours.proofs.Sides.{at_left, at_right}

module _ (w : Window) (r : ℤ) (s : Stroke) where
  abbrev both : Window
  both = joined w (beside w r)

  abbrev x_at : ℤ → ℤ → ℤ
  x_at n d = along s.x1 s.x2 n d

  -- ---- in one of the two
  in_left : w.right <ℤ r → {n d : ℤ} → Keeps w s n d → Keeps both s n d
  in_left wide {n} {d} k = record {
    time = k.time;
    x = record {
      above = k.x.above;
      below = ge (x_at n d ∷ w.right ∷ r ∷ d ∷ []) x0 (x2 ⊗ x3) (le x0 (x1 ⊗ x3) k.x.below ⊞ lt x1 x2 wide ⊠ po x3 k.time.den) tt;
    };
    y = k.y;
  }

  in_right : w.left <ℤ w.right → {n d : ℤ} → Keeps (beside w r) s n d → Keeps both s n d
  in_right wide {n} {d} k = record {
    time = k.time;
    x = record {
      above = ge (x_at n d ∷ w.left ∷ w.right ∷ d ∷ []) (x1 ⊗ x3) x0 (le (x2 ⊗ x3) x0 k.x.above ⊞ lt x1 x2 wide ⊠ po x3 k.time.den) tt;
      below = k.x.below;
    };
    y = k.y;
  }

  -- ---- of the joined window
  on_left : {n d : ℤ} → x_at n d ≤ℤ (w.right *ℤ d) → Keeps both s n d → Keeps w s n d
  on_left h k = record { time = k.time; x = record { above = k.x.above; below = h }; y = k.y }

  on_right : {n d : ℤ} → (w.right *ℤ d) ≤ℤ x_at n d → Keeps both s n d → Keeps (beside w r) s n d
  on_right h k = record { time = k.time; x = record { above = h; below = k.x.below }; y = k.y }

  pub in_one_of_two : w.left <ℤ w.right → w.right <ℤ r → (n d : ℤ) → Keeps both s n d ↔ (Keeps w s n d ⊎ Keeps (beside w r) s n d)
  in_one_of_two wide wide' n d = (
    λ k. ⊎_elim (λ h. inl (on_left h k)) (λ h. inr (on_right (<→≤ h) k)) (≤_total (x_at n d) (w.right *ℤ d)),
    ⊎_elim (in_left wide') (in_right wide),
  )

  in_both : {n d : ℤ} → x_at n d ≡ w.right *ℤ d → Keeps both s n d → Keeps w s n d × Keeps (beside w r) s n d
  in_both e k = (on_left (≡→≤ e) k, on_right (≡→≤ (sym e)) k)

  -- ---- an end that only one of the two windows has is not fixed by the common border, nor by the far side of the other
  module _ {Towards : ℤ → Type 0} {f : Fraction} where
    pub right_unfixed : w.right <ℤ r → Keeps w s f.num f.den → (Keeps (beside w r) s f.num f.den → ⊥)
        → Fixes Towards f (condition w s right) ↔ Fixes Towards f (condition both s right)
    right_unfixed wide k never = (
      λ h. absurd (never (in_both (at_right w s h) (in_left wide k)).1),
      λ h. absurd (clash (x_at f.num f.den ∷ w.right ∷ r ∷ f.den ∷ [])
          (le x0 (x1 ⊗ x3) k.x.below ⊞ lt x1 x2 wide ⊠ po x3 k.time.den ⊞ eq (con (pos 1)) x0 (x2 ⊗ x3) (at_right both s h)) tt),
    )

    pub left_unfixed : w.left <ℤ w.right → Keeps (beside w r) s f.num f.den → (Keeps w s f.num f.den → ⊥)
        → Fixes Towards f (condition (beside w r) s left) ↔ Fixes Towards f (condition both s left)
    left_unfixed wide k never = (
      λ h. absurd (never (in_both (at_left (beside w r) s h) (in_right wide k)).0),
      λ h. absurd (clash (x_at f.num f.den ∷ w.left ∷ w.right ∷ f.den ∷ [])
          (le (x2 ⊗ x3) x0 k.x.above ⊞ lt x1 x2 wide ⊠ po x3 k.time.den ⊞ eq (neg (con (pos 1))) x0 (x1 ⊗ x3) (at_left both s h)) tt),
    )

  -- ---- where the stroke crosses the border
  -- between a fraction f of the one window and a fraction g of the other, which does not come before it
  pub record Crossed (f g : Fraction) : Type 0 where
    pub num : ℤ
    pub den : ℤ
    pub here : Keeps w s num den
    pub there : Keeps (beside w r) s num den
    pub order : (f.num *ℤ g.den) ≤ℤ (g.num *ℤ f.den)

  module _ (wide : w.left <ℤ w.right) (wide' : w.right <ℤ r) {f g : Fraction} where
    crossed : (p q : ℤ) → pos 0 <ℤ p → x_at q p ≡ w.right *ℤ p → Keeps both s f.num f.den → Keeps both s g.num g.den
        → (p *ℤ f.num) ≤ℤ (q *ℤ f.den) → (q *ℤ g.den) ≤ℤ (p *ℤ g.num) → Crossed f g
    crossed p q p⁺ e k l before behind =
        let ρ = f.num ∷ f.den ∷ g.num ∷ g.den ∷ p ∷ q ∷ [] in
        let span : Span = record { first = f; last = g } in
        let between : InSpan span q p = record {
          from = ge ρ (x0 ⊗ var 4) (var 5 ⊗ x1) (le (var 4 ⊗ x0) (var 5 ⊗ x1) before) tt;
          upto = ge ρ (var 5 ⊗ x3) (x2 ⊗ var 4) (le (var 5 ⊗ x3) (var 4 ⊗ x2) behind) tt;
        } in
        let sides = in_both e (keeps_between {s = span} p⁺ between k l) in
        record {
          num = q;
          den = p;
          here = sides.0;
          there = sides.1;
          order = ge_by ρ (po (var 4) p⁺) (x0 ⊗ x3) (x2 ⊗ x1)
              (le (var 4 ⊗ x0) (var 5 ⊗ x1) before ⊠ po x3 l.time.den ⊞ le (var 5 ⊗ x3) (var 4 ⊗ x2) behind ⊠ po x1 k.time.den) tt;
        }

    pub crossed_rightward : pos 0 <ℤ dx s → Keeps w s f.num f.den → Keeps (beside w r) s g.num g.den → Crossed f g
    crossed_rightward h k l = crossed (dx s) (w.right -ℤ s.x1) h
        (ring (s.x1 ∷ s.x2 ∷ w.right ∷ []) (x0 ⊗ (x1 ⊖ x0) ⊕ (x2 ⊖ x0) ⊗ (x1 ⊖ x0)) (x2 ⊗ (x1 ⊖ x0)) tt)
        (in_left wide' k) (in_right wide l) (below_high k.x)
        (ge (s.x1 ∷ s.x2 ∷ w.right ∷ g.num ∷ g.den ∷ []) ((x2 ⊖ x0) ⊗ var 4) ((x1 ⊖ x0) ⊗ x3)
        (le (neg (x1 ⊖ x0) ⊗ x3) ((x0 ⊖ x2) ⊗ var 4) (above_low l.x)) tt)

    pub crossed_leftward : dx s <ℤ pos 0 → Keeps (beside w r) s f.num f.den → Keeps w s g.num g.den → Crossed f g
    crossed_leftward h k l = crossed (neg_ℤ (dx s)) (s.x1 -ℤ w.right)
        (gt (s.x1 ∷ s.x2 ∷ []) (con (pos 0)) (neg (x1 ⊖ x0)) (lt (x1 ⊖ x0) (con (pos 0)) h) tt)
        (ring (s.x1 ∷ s.x2 ∷ w.right ∷ []) (x0 ⊗ neg (x1 ⊖ x0) ⊕ (x0 ⊖ x2) ⊗ (x1 ⊖ x0)) (x2 ⊗ neg (x1 ⊖ x0)) tt)
        (in_right wide k) (in_left wide' l) (above_low k.x)
        (ge (s.x1 ∷ s.x2 ∷ w.right ∷ g.num ∷ g.den ∷ []) ((x0 ⊖ x2) ⊗ var 4) (neg (x1 ⊖ x0) ⊗ x3)
        (le ((x1 ⊖ x0) ⊗ x3) ((x2 ⊖ x0) ⊗ var 4) (below_high l.x)) tt)

  -- ---- a stroke along the border
  module _ (wide : w.left <ℤ w.right) (wide' : w.right <ℤ r) (e₁ : s.x1 ≡ w.right) (e₂ : s.x2 ≡ w.right) where
    on_border : (n d : ℤ) → x_at n d ≡ w.right *ℤ d
    on_border n d =
        eq_by (s.x1 ∷ s.x2 ∷ w.right ∷ n ∷ d ∷ []) (x0 ⊗ var 4 ⊕ x3 ⊗ (x1 ⊖ x0)) (x2 ⊗ var 4)
        (eqn (var 4 ⊖ x3) x0 x2 e₁ ⊹ eqn x3 x1 x2 e₂) tt

    pub left_right : (n d : ℤ) → Keeps w s n d ↔ Keeps (beside w r) s n d
    left_right n d = (λ k. (in_both (on_border n d) (in_left wide' k)).1, λ k. (in_both (on_border n d) (in_right wide k)).0)

  -- an upright stroke that both keep goes along it
  pub upright : {f g : Fraction} → dx s ≡ pos 0 → Keeps w s f.num f.den → Keeps (beside w r) s g.num g.den → s.x1 ≡ w.right
  upright {f} {g} e k l = ≤_antisym
      (ge_by (s.x1 ∷ s.x2 ∷ w.right ∷ f.num ∷ f.den ∷ []) (po (var 4) k.time.den) x0 x2
      (le (x0 ⊗ var 4 ⊕ x3 ⊗ (x1 ⊖ x0)) (x2 ⊗ var 4) k.x.below ⊞ eq x3 (x1 ⊖ x0) (con (pos 0)) e) tt)
      (ge_by (s.x1 ∷ s.x2 ∷ w.right ∷ g.num ∷ g.den ∷ []) (po (var 4) l.time.den) x2 x0
      (le (x2 ⊗ var 4) (x0 ⊗ var 4 ⊕ x3 ⊗ (x1 ⊖ x0)) l.x.above ⊞ eq (neg x3) (x1 ⊖ x0) (con (pos 0)) e) tt)
