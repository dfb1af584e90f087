-- The two ends of what is kept: where the line crosses the found side, and the side is then the first that fixes the end; or the stroke's own.
use mathlib.Core.Path.{◌≡◌, sym, subst, subst₂}
use mathlib.Core.List.{List, [], ◌∷◌}
use mathlib.Core.Logic.{⊎_elim}
use Prim.Native.Nat.{ℕ}
use native.Mathlib.Omega.{arith}
use lib.IntN.{ℤ, pos, neg_ℤ, ◌*ℤ◌}
use lib.Signed.{◌≤ℤ◌, ◌<ℤ◌}
use Rattle.whole.specs.Within.{Within}
use Rattle.whole.proofs.Certificates.{ge, gt, clash, nn, le, lt, ◌⊞◌}
use Rattle.whole.proofs.Expressions.{con, ◌⊕◌, ◌⊖◌, ◌⊗◌, neg, x0, x1, x2}
use Rattle.whole.proofs.Order.{zarith}
use Rattle.whole.proofs.Polynomials.{ring}
use Rattle.fraction.specs.declared.Fraction.{Fraction}
use Rattle.fraction.specs.Rounding.{along}
use Rattle.grid.specs.declared.Stroke.{Stroke}
use Rattle.grid.specs.declared.Window.{Window}
use Rattle.grid.specs.Table.{WindowOnTable}
use Rattle.rings.specs.Lists.{All}
use Rattle.spans.specs.Parts.{zeroth, unit}
use Rattle.spans.specs.Sides.{Condition, MeetsAll, Inward, Outward, FirstOf, no_side, StartSide, EndSide}
use Rattle.spans.proofs.Cutting.{one_within}
use Rattle.spans.proofs.Sides.{own_start, own_end}
use Rattle.strokes.specs.declared.End.{End}
use Rattle.strokes.specs.Sides.{conditions, four_sides}
use Rattle.strokes.specs.Strokes.{PointAt}
use Rattle.strokes.specs.Workers.{OnWay, EndAt}
use Rattle.crossed_sides.specs.declared.Course.{Course}
use Rattle.crossed_sides.specs.Line.{ComesIn, GoesOut}
use Rattle.crossed_sides.specs.Workers.{CourseOf, up, down}
use Rattle.crossed_sides.proofs.Corners.{Enters, Leaves}
use Rattle.crossed_sides.proofs.Courses.{in_of, out_of}
use Rattle.cross_product.specs.Workers.{part_way, EndFound}
use Rattle.cross_product.proofs.Fixing.{in_meets, out_meets}
use Rattle.cross_product.proofs.Naming.{start_fixed, end_fixed}
use Rattle.cross_product.proofs.Reached.{Reached, starts_inside, ends_inside}

-- ---- on its course the stroke is at a side where it meets it
pub course_at : {lo hi a b : ℤ} {c : Course} → CourseOf lo hi a b c → along a b c.near c.long ≡ c.at *ℤ c.long
course_at {lo} {hi} {a} {b} (up h) = ring (lo ∷ a ∷ b ∷ []) (x1 ⊗ (x2 ⊖ x1) ⊕ (x0 ⊖ x1) ⊗ (x2 ⊖ x1)) (x0 ⊗ (x2 ⊖ x1)) tt
course_at {lo} {hi} {a} {b} (down h) = ring (hi ∷ a ∷ b ∷ []) (x1 ⊗ (x1 ⊖ x2) ⊕ (x1 ⊖ x0) ⊗ (x2 ⊖ x1)) (x0 ⊗ (x1 ⊖ x2)) tt

pub course_to : {lo hi a b : ℤ} {c : Course} → CourseOf lo hi a b c → along a b c.far c.long ≡ c.to *ℤ c.long
course_to {lo} {hi} {a} {b} (up h) = ring (hi ∷ a ∷ b ∷ []) (x1 ⊗ (x2 ⊖ x1) ⊕ (x0 ⊖ x1) ⊗ (x2 ⊖ x1)) (x0 ⊗ (x2 ⊖ x1)) tt
course_to {lo} {hi} {a} {b} (down h) = ring (lo ∷ a ∷ b ∷ []) (x1 ⊗ (x1 ⊖ x2) ⊕ (x1 ⊖ x0) ⊗ (x2 ⊖ x1)) (x0 ⊗ (x1 ⊖ x2)) tt

-- ---- the fraction there, of a stroke that is met at its start or its end by each condition
module _ (c : Course) where
  pub near_way : Within 32766 c.long → Inward (neg_ℤ c.long) → Reached (in_of c) → pos 0 <ℤ c.near → OnWay (part_way c.near c.long)
  near_way small i r h = record {
    time = record {
      den = gt (c.long ∷ []) (con (pos 0)) x0 (lt (neg x0) (con (pos 0)) i) tt;
      low = omega zarith;
      high = ⊎_elim (λ m. absurd (clash (c.near ∷ []) (lt (con (pos 0)) x0 h ⊞ nn (neg x0) m) tt))
          (λ m. ge (c.long ∷ c.near ∷ []) x1 x0 (le (neg x0) (neg x1) m) tt) r;
    };
    small = small;
  }

  pub far_way : Within 32766 c.long → Outward c.long → Reached (out_of c) → c.far <ℤ c.long → OnWay (part_way c.far c.long)
  far_way small o r h = record {
    time = record { den = o; low = ⊎_elim (λ m. m) (λ m. absurd (omega zarith)) r; high = omega zarith };
    small = small;
  }

-- ---- an end that is found
module _ {w : Window} {s : Stroke} {e : End} where
  found : {Named : List Condition → Fraction → ℕ → Type 0} {f : Fraction} {k : ℕ} → EndAt s f k e → Within 32766 f.den
      → MeetsAll (conditions w s) f.num f.den → Named (conditions w s) f k → EndFound Named w s e
  found {Named} h small m n = record {
    small = subst (λ (g : Fraction). Within 32766 g.den) (sym h.t) small;
    meets = subst (λ (g : Fraction). MeetsAll (conditions w s) g.num g.den) (sym h.t) m;
    point = subst (λ (g : Fraction). PointAt s g e.x e.y) (sym h.t) h.point;
    side = subst₂ (Named (conditions w s)) (sym h.t) (sym h.side) n;
  }

-- ---- by the side k of all conditions
module _ (w : Window) (s : Stroke) (on : WindowOnTable w) (r : All Reached (conditions w s)) (k : Condition)
    (member : (P : Condition → Type 0) → All P (conditions w s) → P k) where
  -- ---- the start
  module _ (e : Enters (conditions w s) k) where
    pub own_start_found : {a : End} → pos 0 ≤ℤ k.q → EndAt s zeroth no_side a → EndFound StartSide w s a
    own_start_found h t =
        found t (one_within (omega arith)) (record { time = record { den = omega zarith; low = omega zarith; high = omega zarith }; each = starts_inside k r e h }) own_start

    module _ (f : Fraction) (way : OnWay f) (meets : k.p *ℤ f.num ≡ k.q *ℤ f.den) where
      in_all : All (λ (c : Condition). (c.p *ℤ f.num) ≤ℤ (c.q *ℤ f.den)) (conditions w s)
      in_all = in_meets k f way.time.den meets e

      pub start_found : {n : ℕ} {a : End} → pos 0 <ℤ f.num → FirstOf (ComesIn w s) four_sides n → EndAt s f n a → EndFound StartSide w s a
      start_found h n t =
          found t way.small (record { time = way.time; each = in_all }) (record {
            remains = λ z. absurd (omega zarith);
            fixed = λ _. start_fixed w s on f (record { time = way.time; each = in_all }) k member (record { crosses = e.inward; on = meets }) n;
          })

  -- ---- the end
  module _ (e : Leaves (conditions w s) k) where
    pub own_end_found : {a : End} → k.p ≤ℤ k.q → EndAt s unit no_side a → EndFound EndSide w s a
    own_end_found h t =
        found t (one_within (omega arith)) (record { time = record { den = omega zarith; low = omega zarith; high = omega zarith }; each = ends_inside k r e h }) own_end

    module _ (f : Fraction) (way : OnWay f) (meets : k.p *ℤ f.num ≡ k.q *ℤ f.den) where
      out_all : All (λ (c : Condition). (c.p *ℤ f.num) ≤ℤ (c.q *ℤ f.den)) (conditions w s)
      out_all = out_meets k f way.time.den meets e

      pub end_found : {n : ℕ} {a : End} → f.num <ℤ f.den → FirstOf (GoesOut w s) four_sides n → EndAt s f n a → EndFound EndSide w s a
      end_found h n t =
          found t way.small (record { time = way.time; each = out_all }) (record {
            remains = λ z. absurd (omega zarith);
            fixed = λ _. end_fixed w s on f (record { time = way.time; each = out_all }) k member (record { crosses = e.outward; on = meets }) n;
          })
