-- Parts of one stroke: where the same is kept the same answer is right; two parts that meet make one that starts as the first and ends as the second.
use mathlib.Core.Path.{◌≡◌, refl, sym, subst}
use mathlib.Core.Bool.{true}
use mathlib.Core.List.{[], ◌∷◌}
use mathlib.Core.Logic.{◌⊎◌, inl, inr, ⊎_elim, ◌↔◌}
use lib.IntN.{ℤ, ◌*ℤ◌}
use lib.Signed.{◌≤ℤ◌}
use Rattle.whole.proofs.Certificates.{ge_by, po, le, ◌⊞◌, ◌⊠◌}
use Rattle.whole.proofs.Comparisons.{tt_ff}
use Rattle.whole.proofs.Expressions.{◌⊗◌, x0, x1, x2, x3, var}
use Rattle.whole.proofs.Order.{≤_antisym}
use Rattle.fraction.specs.declared.Fraction.{Fraction}
use Rattle.fraction.proofs.LowestTerms.{lowest_unique}
use Rattle.grid.specs.declared.Stroke.{Stroke}
use Rattle.grid.specs.declared.Window.{Window}
use Rattle.spans.specs.Parts.{First, Last}
use Rattle.spans.specs.Sides.{StartSide, EndSide}
use Rattle.spans.proofs.Parts.{part_same}
use Rattle.strokes.specs.Sides.{conditions}
use Rattle.strokes.specs.Strokes.{Keeps, PointAt, Clipped}
use Rattle.strokes.specs.declared.StrokeAnswer.{StrokeAnswer}
use Rattle.strokes.proofs.Between.{part_inside}
use Rattle.strokes.proofs.Points.{point_unique}
use Rattle.neighbours.specs.Laws.{MeetsOnce, from_to}

-- ---- an answer that is right for one window is right for another that keeps the same, where its sides are named alike
pub right_too : {w u : Window} {s : Stroke} {a : StrokeAnswer} → Clipped w s a → ((n d : ℤ) → Keeps w s n d ↔ Keeps u s n d)
    → (a.kept ≡ true → StartSide (conditions w s) a.t0 a.side0 → StartSide (conditions u s) a.t0 a.side0)
    → (a.kept ≡ true → EndSide (conditions w s) a.t1 a.side1 → EndSide (conditions u s) a.t1 a.side1) → Clipped u s a
right_too p same start end = record {
  number = p.number;
  place = p.place;
  part = part_same same p.part;
  start = p.start;
  finish = p.finish;
  start_side = λ e. start e (p.start_side e);
  end_side = λ e. end e (p.end_side e);
  missed = p.missed;
}

-- ---- two parts of a stroke
module _ {w v : Window} {s : Stroke} {a b : StrokeAnswer} (p : Clipped w s a) (q : Clipped v s b) where
  -- that have a fraction in common, the one not ending behind the other's start
  pub meets : {n d : ℤ} → Keeps w s n d → Keeps v s n d → a.kept ≡ true → b.kept ≡ true
      → (a.t1.num *ℤ b.t0.den) ≤ℤ (b.t0.num *ℤ a.t1.den) → MeetsOnce a b
  meets {n} {d} i j k l order = record {
    fraction = same;
    point = point_unique last.keeps.time.den (p.finish k) (subst (λ (t : Fraction). PointAt s t b.ax b.ay) (sym same) (q.start l));
    shared = ((part_inside p _ _).1 last.keeps, (part_inside q _ _).1 (subst (λ (t : Fraction). Keeps v s t.num t.den) (sym same) first.keeps));
    no_other = λ x y h g. ≤_antisym (last.greatest x y ((part_inside p x y).0 h))
        (subst (λ (t : Fraction). (t.num *ℤ y) ≤ℤ (x *ℤ t.den)) (sym same) (first.least x y ((part_inside q x y).0 g)));
  }
    where
      last : Last (Keeps w s) a.t1
      last = p.part.last k

      first : First (Keeps v s) b.t0
      first = q.part.first l

      same : a.t1 ≡ b.t0
      same = lowest_unique a.t1 b.t0 last.lowest first.lowest (≤_antisym order
          (ge_by (a.t1.num ∷ a.t1.den ∷ b.t0.num ∷ b.t0.den ∷ n ∷ d ∷ []) (po (var 5) i.time.den) (x2 ⊗ x1) (x0 ⊗ x3)
          (le (var 4 ⊗ x1) (x0 ⊗ var 5) (last.greatest n d i) ⊠ po x3 first.keeps.time.den
          ⊞ le (x2 ⊗ var 5) (var 4 ⊗ x3) (first.least n d j) ⊠ po x1 last.keeps.time.den) tt))

-- ---- the part that two parts make, the one after the other
module _ {w v u : Window} {s : Stroke} {a b : StrokeAnswer} (p : Clipped w s a) (q : Clipped v s b)
    (either : (n d : ℤ) → Keeps u s n d ↔ (Keeps w s n d ⊎ Keeps v s n d)) (k : a.kept ≡ true) (l : b.kept ≡ true) (m : MeetsOnce a b) where
  first_of : First (Keeps u s) a.t0
  first_of =
      let f = p.part.first k in
      let g = p.part.last k in record {
        lowest = f.lowest;
        keeps = (either _ _).1 (inl f.keeps);
        least = λ n d h. ⊎_elim (f.least n d)
            (λ i. ge_by (a.t0.num ∷ a.t0.den ∷ a.t1.num ∷ a.t1.den ∷ n ∷ d ∷ []) (po x3 g.keeps.time.den) (x0 ⊗ var 5) (var 4 ⊗ x1)
            (le (x0 ⊗ x3) (x2 ⊗ x1) (f.least _ _ g.keeps) ⊠ po (var 5) h.time.den
            ⊞ le (x2 ⊗ var 5) (var 4 ⊗ x3) (subst (λ (t : Fraction). (t.num *ℤ d) ≤ℤ (n *ℤ t.den)) (sym m.fraction) ((q.part.first l).least n d i))
            ⊠ po x1 f.keeps.time.den) tt) ((either n d).0 h);
      }

  last_of : Last (Keeps u s) b.t1
  last_of =
      let f = q.part.first l in
      let g = q.part.last l in record {
        lowest = g.lowest;
        keeps = (either _ _).1 (inr g.keeps);
        greatest = λ n d h. ⊎_elim
            (λ i. ge_by (b.t0.num ∷ b.t0.den ∷ b.t1.num ∷ b.t1.den ∷ n ∷ d ∷ []) (po x1 f.keeps.time.den) (var 4 ⊗ x3) (x2 ⊗ var 5)
            (le (x0 ⊗ x3) (x2 ⊗ x1) (g.greatest _ _ f.keeps) ⊠ po (var 5) h.time.den
            ⊞ le (var 4 ⊗ x1) (x0 ⊗ var 5) (subst (λ (t : Fraction). (n *ℤ t.den) ≤ℤ (t.num *ℤ d)) m.fraction ((p.part.last k).greatest n d i))
            ⊠ po x3 g.keeps.time.den) tt) (g.greatest n d) ((either n d).0 h);
      }

  pub from_to_lem : StartSide (conditions u s) a.t0 a.side0 → EndSide (conditions u s) b.t1 b.side1 → Clipped u s (from_to a b)
  from_to_lem start end = record {
    number = refl;
    place = refl;
    part = record { keeps = λ n d h. refl; first = λ _. first_of; last = λ _. last_of; missed = λ e. absurd (tt_ff e) };
    start = λ _. p.start k;
    finish = λ _. q.finish l;
    start_side = λ _. start;
    end_side = λ _. end;
    missed = λ e. absurd (tt_ff e);
  }
