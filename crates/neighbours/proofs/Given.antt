-- Which strokes the batch gives: without touches those with more than one fraction, and such a joined part has more than one in one of the two.
use mathlib.Core.Path.{◌≡◌, refl, sym, ◌∙◌, subst}
use mathlib.Core.Bool.{Bool, true, false}
use mathlib.Core.Logic.{◌⊎◌, inl, inr, ⊎_elim, ◌↔◌}
use lib.IntN.{ℤ, ◌*ℤ◌}
use lib.Signed.{◌≤ℤ◌, ◌<ℤ◌}
use Rattle.whole.proofs.Order.{sign, ≤_antisym}
use Rattle.fraction.specs.declared.Fraction.{Fraction}
use Rattle.fraction.specs.Fraction.{Lowest}
use Rattle.fraction.proofs.LowestTerms.{lowest_unique}
use Rattle.grid.specs.declared.Stroke.{Stroke}
use Rattle.grid.specs.declared.Window.{Window}
use Rattle.strokes.specs.Laws.{InPart}
use Rattle.strokes.specs.Sides.{dx}
use Rattle.strokes.specs.Strokes.{Clipped}
use Rattle.strokes.specs.declared.StrokeAnswer.{StrokeAnswer}
use Rattle.strokes.proofs.Between.{part_inside}
use Rattle.cuts.specs.Cuts.{is_given}
use Rattle.cuts.proofs.Given.{given_kept, kept_given, given_exactly, touch_exactly}
use Rattle.neighbours.specs.Laws.{joined, ThreeAnswers, MeetsOnce, from_to, PutTogether}
use Rattle.neighbours.proofs.Windows.{beside}
use Rattle.neighbours.proofs.Strokes.{clipped_kept, clipped_together, clipped_put_together, done_or_blank}

abbrev pub GivenByOne : Bool → StrokeAnswer → StrokeAnswer → StrokeAnswer → Type 0
GivenByOne touches a b c = (is_given touches c ≡ true) ↔ ((is_given touches a ≡ true) ⊎ (is_given touches b ≡ true))

-- ---- a part of one fraction has no other in it
module _ {u : Window} {s : Stroke} {c : StrokeAnswer} (j : Clipped u s c) (e : c.t0 ≡ c.t1) where
  the_one : {f : Fraction} → Lowest f → InPart c f.num f.den → f ≡ c.t1
  the_one {f} l i = lowest_unique f c.t1 l (j.part.last i.kept).lowest (≤_antisym i.between.upto
      (subst (λ (t : Fraction). (t.num *ℤ f.den) ≤ℤ (f.num *ℤ t.den)) e i.between.from))

  no_length : {w : Window} {a : StrokeAnswer} → Clipped w s a → ((n d : ℤ) → InPart a n d → InPart c n d) → a.kept ≡ true → a.t0 ≡ a.t1
  no_length {w} {a} p all k =
      let f = p.part.first k in
      let g = p.part.last k in
      the_one f.lowest (all _ _ ((part_inside p _ _).1 f.keeps)) ∙ sym (the_one g.lowest (all _ _ ((part_inside p _ _).1 g.keeps)))

module _ {s : Stroke} {a b c : StrokeAnswer} (w : Window) (r : ℤ) (wide : w.left <ℤ w.right) (wide' : w.right <ℤ r)
    (p : Clipped w s a) (q : Clipped (beside w r) s b) (j : Clipped (joined w (beside w r)) s c) where
  -- ---- where neither of the two has more than one fraction, the joined window has not
  one_fraction : (a.kept ≡ true → a.t0 ≡ a.t1) → (b.kept ≡ true → b.t0 ≡ b.t1) → c.kept ≡ true → c.t0 ≡ c.t1
  one_fraction left right e = go a.kept refl b.kept refl
    where
      put : PutTogether s a b c
      put = clipped_put_together w r wide wide' p q j

      -- c is an answer with one fraction
      like : {x : StrokeAnswer} → c ≡ x → (x.kept ≡ true → x.t0 ≡ x.t1) → c.t0 ≡ c.t1
      like same = subst (λ (x : StrokeAnswer). (x.kept ≡ true → x.t0 ≡ x.t1) → c.t0 ≡ c.t1) same (λ h. h e)

      -- or goes from one with one fraction to another
      through : {x y : StrokeAnswer} → x.t0 ≡ x.t1 → y.t0 ≡ y.t1 → MeetsOnce x y × (c ≡ from_to x y) → c.t0 ≡ c.t1
      through h k (m, same) = (λ i. (same i).t0) ∙ h ∙ m.fraction ∙ k ∙ sym (λ i. (same i).t1)

      go : (x : Bool) → a.kept ≡ x → (y : Bool) → b.kept ≡ y → c.t0 ≡ c.t1
      go true k true l = ⊎_elim (λ h. through (right l) (left k) (put.leftward k l h))
          (λ h. ⊎_elim (λ z. like (put.upright k l z).0 left) (λ h. through (left k) (right l) (put.rightward k l h)) h) (sign (dx s))
      go true k false l = like (put.left_alone l) left
      go false k y l = like (put.right_alone k) right

  -- ---- given for the joined window exactly when for one of the two
  abbrev kept_either : (c.kept ≡ true) ↔ ((a.kept ≡ true) ⊎ (b.kept ≡ true))
  kept_either = clipped_kept w r wide wide' p q j

  -- more than one fraction of one of the two are more than one of the joined part
  longer : {u : Window} {x : StrokeAnswer} → Clipped u s x → ((n d : ℤ) → InPart x n d → InPart c n d) → (x.kept ≡ true → c.kept ≡ true)
      → is_given false x ≡ true → is_given false c ≡ true
  longer v all kept e = let (k, n) = (given_exactly v).0 e in (given_exactly j).1 (kept k, λ t. n (no_length j t v all k))

  pub clipped_given : (touches : Bool) → GivenByOne touches a b c
  clipped_given true = (
    λ e. ⊎_elim (λ k. inl (kept_given a k)) (λ k. inr (kept_given b k)) (kept_either.0 (given_kept c true e)),
    λ e. kept_given c (kept_either.1 (⊎_elim (λ k. inl (given_kept a true k)) (λ k. inr (given_kept b true k)) e)),
  )
  clipped_given false = (
    there (is_given false a) refl (is_given false b) refl,
    ⊎_elim
        (longer p (λ n d i. (clipped_together w r wide wide' p q j n d).1 (inl i)) (λ k. kept_either.1 (inl k)))
        (longer q (λ n d i. (clipped_together w r wide wide' p q j n d).1 (inr i)) (λ k. kept_either.1 (inr k))),
  )
    where
      there : (x : Bool) → is_given false a ≡ x → (y : Bool) → is_given false b ≡ y
          → is_given false c ≡ true → (is_given false a ≡ true) ⊎ (is_given false b ≡ true)
      there true g y h e = inl g
      there false g true h e = inr h
      there false g false h e =
          let (k, n) = (given_exactly j).0 e in
          absurd (n (one_fraction (λ k. touch_exactly p k g) (λ k. touch_exactly q k h) k))

pub given_by_one : (touches : Bool) (w v : Window) (s : Stroke) (a b c : StrokeAnswer) → ThreeAnswers w v s a b c → GivenByOne touches a b c
given_by_one touches =
    done_or_blank (λ w v s a b c x y p q j. clipped_given w v.right x y p q j touches) (λ w s r. (inl, ⊎_elim (λ e. e) (λ e. e)))
