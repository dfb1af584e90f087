-- The sides of a stroke turned round: a side's condition p·t ≤ q becomes −p·t ≤ q − p, so that what is crossed inward at f is crossed outward at 1 − f.
use mathlib.Core.Path.{◌≡◌}
use mathlib.Core.List.{List, [], ◌∷◌}
use Prim.Native.Nat.{ℕ}
use lib.IntN.{pos, negsuc, neg_ℤ, ◌-ℤ◌, ◌*ℤ◌}
use Rattle.whole.proofs.Certificates.{gt, eq, eqn, eq_by, ◌⊹◌, po, lt, ◌⊞◌}
use Rattle.whole.proofs.Expressions.{Expr, Env, var, con, ◌⊖◌, ◌⊗◌, neg, x0, x1, x2, x3}
use Rattle.whole.proofs.Polynomials.{ring}
use Rattle.fraction.specs.declared.Fraction.{Fraction}
use Rattle.grid.specs.declared.Stroke.{Stroke}
use Rattle.grid.specs.declared.Window.{Window}
use Rattle.grid.specs.Sides.{Side, left, right, bottom, top}
use Rattle.rings.specs.Lists.{Each, none, ◌and◌}
use Rattle.spans.specs.Sides.{Condition, Inward, Outward, Fixes, StartSide, EndSide}
use Rattle.spans.proofs.Sides.{first_each}
use Rattle.strokes.specs.Sides.{condition, conditions}
use Rattle.turned_round.specs.Laws.{turn_round, one_minus}

-- ---- the condition of a side, for the stroke turned round
pub record TurnedBack (c e : Condition) : Type 0 where
  pub p : e.p ≡ neg_ℤ c.p
  pub q : e.q ≡ c.q -ℤ c.p

condition_turned : (w : Window) (s : Stroke) (k : Side) → TurnedBack (condition w s k) (condition w (turn_round s) k)
condition_turned w s left = record {
  p = ring (s.x1 ∷ s.x2 ∷ []) (neg (x0 ⊖ x1)) (neg (neg (x1 ⊖ x0))) tt;
  q = ring (s.x1 ∷ s.x2 ∷ w.left ∷ []) (x1 ⊖ x2) (x0 ⊖ x2 ⊖ neg (x1 ⊖ x0)) tt;
}
condition_turned w s right = record {
  p = ring (s.x1 ∷ s.x2 ∷ []) (x0 ⊖ x1) (neg (x1 ⊖ x0)) tt;
  q = ring (s.x1 ∷ s.x2 ∷ w.right ∷ []) (x2 ⊖ x1) (x2 ⊖ x0 ⊖ (x1 ⊖ x0)) tt;
}
condition_turned w s bottom = record {
  p = ring (s.y1 ∷ s.y2 ∷ []) (neg (x0 ⊖ x1)) (neg (neg (x1 ⊖ x0))) tt;
  q = ring (s.y1 ∷ s.y2 ∷ w.bottom ∷ []) (x1 ⊖ x2) (x0 ⊖ x2 ⊖ neg (x1 ⊖ x0)) tt;
}
condition_turned w s top = record {
  p = ring (s.y1 ∷ s.y2 ∷ []) (x0 ⊖ x1) (neg (x1 ⊖ x0)) tt;
  q = ring (s.y1 ∷ s.y2 ∷ w.top ∷ []) (x2 ⊖ x1) (x2 ⊖ x0 ⊖ (x1 ⊖ x0)) tt;
}

pub conditions_turned : (w : Window) (s : Stroke) → Each TurnedBack (conditions w s) (conditions w (turn_round s))
conditions_turned w s = ◌and◌ (condition_turned w s left)
    (◌and◌ (condition_turned w s right) (◌and◌ (condition_turned w s bottom) (◌and◌ (condition_turned w s top) none)))

-- ---- where it is crossed
module _ (c e : Condition) (h : TurnedBack c e) (f : Fraction) where
  abbrev ρ : Env
  ρ = c.p ∷ c.q ∷ f.num ∷ f.den ∷ e.p ∷ e.q ∷ []

  abbrev p' : Expr
  p' = var 4

  abbrev q' : Expr
  q' = var 5

  on_back : c.p *ℤ f.num ≡ c.q *ℤ f.den → e.p *ℤ (f.den -ℤ f.num) ≡ e.q *ℤ f.den
  on_back i = eq_by ρ (p' ⊗ (x3 ⊖ x2)) (q' ⊗ x3)
      (eqn (x3 ⊖ x2) p' (neg x0) h.p ⊹ eqn (neg x3) q' (x1 ⊖ x0) h.q ⊹ eqn (con (pos 1)) (x0 ⊗ x2) (x1 ⊗ x3) i) tt

  back_on : e.p *ℤ (f.den -ℤ f.num) ≡ e.q *ℤ f.den → c.p *ℤ f.num ≡ c.q *ℤ f.den
  back_on i = eq_by ρ (x0 ⊗ x2) (x1 ⊗ x3)
      (eqn (neg (x3 ⊖ x2)) p' (neg x0) h.p ⊹ eqn x3 q' (x1 ⊖ x0) h.q ⊹ eqn (con (pos 1)) (p' ⊗ (x3 ⊖ x2)) (q' ⊗ x3) i) tt

  outward_back : Fixes Outward f c → Fixes Inward (one_minus f) e
  outward_back x = record { crosses = gt ρ p' (con (pos 0)) (po x0 x.crosses ⊞ eq (con (negsuc 0)) p' (neg x0) h.p) tt; on = on_back x.on }

  back_outward : Fixes Inward (one_minus f) e → Fixes Outward f c
  back_outward x = record { crosses = gt ρ (con (pos 0)) x0 (lt p' (con (pos 0)) x.crosses ⊞ eq (con (pos 1)) p' (neg x0) h.p) tt; on = back_on x.on }

  inward_back : Fixes Inward f c → Fixes Outward (one_minus f) e
  inward_back x = record { crosses = gt ρ (con (pos 0)) p' (lt x0 (con (pos 0)) x.crosses ⊞ eq (con (pos 1)) p' (neg x0) h.p) tt; on = on_back x.on }

  back_inward : Fixes Outward (one_minus f) e → Fixes Inward f c
  back_inward x = record { crosses = gt ρ x0 (con (pos 0)) (po p' x.crosses ⊞ eq (con (negsuc 0)) p' (neg x0) h.p) tt; on = back_on x.on }

-- ---- the sides are exchanged, for whatever conditions turn so
module _ {cs es : List Condition} (h : Each TurnedBack cs es) (f : Fraction) where
  abbrev ends : Env
  ends = f.num ∷ f.den ∷ []

  pub start_back : {k : ℕ} → EndSide cs f k → StartSide es (one_minus f) k
  start_back g = record {
    remains = λ o. g.remains (eq_by ends x0 x1 (eqn (con (negsuc 0)) (x1 ⊖ x0) (con (pos 0)) o) tt);
    fixed = λ o.
        first_each h (λ c e t. outward_back c e t f) (λ c e t. back_outward c e t f)
        (g.fixed (λ z. o (eq_by ends (x1 ⊖ x0) (con (pos 0)) (eqn (con (negsuc 0)) x0 x1 z) tt)));
  }

  pub end_back : {k : ℕ} → StartSide cs f k → EndSide es (one_minus f) k
  end_back g = record {
    remains = λ o. g.remains (eq_by ends x0 (con (pos 0)) (eqn (con (negsuc 0)) (x1 ⊖ x0) x1 o) tt);
    fixed = λ o.
        first_each h (λ c e t. inward_back c e t f) (λ c e t. back_inward c e t f)
        (g.fixed (λ z. o (eq_by ends (x1 ⊖ x0) x1 (eqn (con (negsuc 0)) x0 (con (pos 0)) z) tt)));
  }
