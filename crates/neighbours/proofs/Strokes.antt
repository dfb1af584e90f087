-- One stroke: what the joined window keeps one of the two keeps, so its part is made of theirs, and they meet where the stroke crosses the common border.
use mathlib.Core.Path.{◌≡◌, refl, sym, ◌∙◌, subst, transport}
use mathlib.Core.Bool.{true, false}
use mathlib.Core.List.{[], ◌∷◌}
use mathlib.Core.Logic.{◌⊎◌, inl, inr, ⊎_elim, ◌↔◌}
use lib.IntN.{ℤ, pos}
use lib.Signed.{◌<ℤ◌}
use Rattle.whole.proofs.Certificates.{eq_by, eqn, ◌⊹◌}
use Rattle.whole.proofs.Comparisons.{ff_tt}
use Rattle.whole.proofs.Expressions.{con, ◌⊖◌, neg, x0, x1, x2}
use Rattle.whole.proofs.Order.{<→≤, ≡→≤, sign}
use Rattle.grid.specs.declared.Refusal.{Refusal}
use Rattle.grid.specs.declared.Stroke.{Stroke}
use Rattle.grid.specs.declared.Window.{Window}
use Rattle.grid.specs.Refusals.{stroke_refusal}
use Rattle.grid.proofs.Refusals.{done_or_refused}
use Rattle.grid.specs.Sides.{left, right}
use Rattle.spans.specs.Sides.{Inward, Outward, Fixes}
use Rattle.strokes.specs.Laws.{InPart}
use Rattle.strokes.specs.Sides.{dx, condition}
use Rattle.strokes.specs.Strokes.{Keeps, Clipped, Clipping, blank}
use Rattle.strokes.specs.declared.StrokeAnswer.{StrokeAnswer}
use Rattle.strokes.proofs.Between.{part_inside}
use Rattle.strokes.proofs.Refusing.{not_refused, refused_stroke}
use Rattle.strokes.proofs.Computed.{answer_of, answer_of_is}
use Rattle.strokes.proofs.Unique.{clipped_unique, one_stroke_answer}
use Rattle.neighbours.specs.Laws.{Neighbours, joined, ThreeAnswers, MeetsOnce, from_to, PutTogether}
use Rattle.neighbours.specs.Laws.{ByCodesToo, RefusedAlike, KeptByOne, PartsTogether, ShareOneFraction, AlongTheBorder, JoinedAnswer}
use Rattle.neighbours.proofs.Windows.{beside, right_is, wide_left, wide_right, joined_not_refused}
use Rattle.neighbours.proofs.Sides.{itself, named_as, left_not_in, left_not_out, right_not_in, right_not_out}
use Rattle.neighbours.proofs.Border.{right_unfixed, left_unfixed, in_one_of_two, crossed_rightward, crossed_leftward, left_right, upright}
use Rattle.neighbours.proofs.Parts.{right_too, meets, from_to_lem}

-- ---- two windows side by side, and a stroke in which nothing is refused
module _ {s : Stroke} {a b c : StrokeAnswer} (w : Window) (r : ℤ) (wide : w.left <ℤ w.right) (wide' : w.right <ℤ r)
    (p : Clipped w s a) (q : Clipped (beside w r) s b) (j : Clipped (joined w (beside w r)) s c) where
  abbrev both : Window
  both = joined w (beside w r)

  abbrev either : (n d : ℤ) → Keeps both s n d ↔ (Keeps w s n d ⊎ Keeps (beside w r) s n d)
  either = in_one_of_two w r s wide wide'

  pub clipped_kept : (c.kept ≡ true) ↔ ((a.kept ≡ true) ⊎ (b.kept ≡ true))
  clipped_kept = (
    λ e. ⊎_elim (λ k. inl (p.part.keeps _ _ k)) (λ k. inr (q.part.keeps _ _ k)) ((either _ _).0 (j.part.first e).keeps),
    ⊎_elim (λ e. j.part.keeps _ _ ((either _ _).1 (inl (p.part.first e).keeps)))
        (λ e. j.part.keeps _ _ ((either _ _).1 (inr (q.part.first e).keeps))),
  )

  pub clipped_together : (n d : ℤ) → InPart c n d ↔ (InPart a n d ⊎ InPart b n d)
  clipped_together n d = (
    λ i. ⊎_elim (λ k. inl ((part_inside p n d).1 k)) (λ k. inr ((part_inside q n d).1 k)) ((either n d).0 ((part_inside j n d).0 i)),
    λ i. (part_inside j n d).1 ((either n d).1 (⊎_elim (λ h. inl ((part_inside p n d).0 h)) (λ h. inr ((part_inside q n d).0 h)) i)),
  )

  -- ---- a stroke through both
  rightward : a.kept ≡ true → b.kept ≡ true → pos 0 <ℤ dx s → MeetsOnce a b × (c ≡ from_to a b)
  rightward k l h =
      let x = crossed_rightward w r s wide wide' h (p.part.last k).keeps (q.part.first l).keeps in
      let m = meets p q x.here x.there k l x.order in (
        m,
        clipped_unique j (from_to_lem p q either k l m
            (named_as itself (right_not_in w both s (<→≤ h)) (p.start_side k))
            (named_as (left_not_out (beside w r) both s (<→≤ h)) itself (q.end_side l))),
      )

  leftward : a.kept ≡ true → b.kept ≡ true → dx s <ℤ pos 0 → MeetsOnce b a × (c ≡ from_to b a)
  leftward k l h =
      let x = crossed_leftward w r s wide wide' h (q.part.last l).keeps (p.part.first k).keeps in
      let m = meets q p x.there x.here l k x.order in (
        m,
        clipped_unique j (from_to_lem q p (λ n d. (λ i. ⊎_elim inr inl ((either n d).0 i), λ i. (either n d).1 (⊎_elim inr inl i))) l k m
            (named_as (left_not_in (beside w r) both s (<→≤ h)) itself (q.start_side l))
            (named_as itself (right_not_out w both s (<→≤ h)) (p.end_side k))),
      )

  -- ---- a stroke whose joined part is that of one of the two; its ends must be fixed alike by the one side in which the two windows differ
  as_left : ((n d : ℤ) → Keeps (beside w r) s n d → Keeps w s n d)
      → (a.kept ≡ true → Fixes Inward a.t0 (condition w s right) ↔ Fixes Inward a.t0 (condition both s right))
      → (a.kept ≡ true → Fixes Outward a.t1 (condition w s right) ↔ Fixes Outward a.t1 (condition both s right)) → c ≡ a
  as_left only start end = clipped_unique j (right_too p
      (λ n d. (λ k. (either n d).1 (inl k), λ k. ⊎_elim (λ h. h) (only n d) ((either n d).0 k)))
      (λ e. named_as itself (start e)) (λ e. named_as itself (end e)))

  as_right : ((n d : ℤ) → Keeps w s n d → Keeps (beside w r) s n d)
      → (b.kept ≡ true → Fixes Inward b.t0 (condition (beside w r) s left) ↔ Fixes Inward b.t0 (condition both s left))
      → (b.kept ≡ true → Fixes Outward b.t1 (condition (beside w r) s left) ↔ Fixes Outward b.t1 (condition both s left)) → c ≡ b
  as_right only start end = clipped_unique j (right_too q
      (λ n d. (λ k. (either n d).1 (inr k), λ k. ⊎_elim (only n d) (λ h. h) ((either n d).0 k)))
      (λ e. named_as (start e) itself) (λ e. named_as (end e) itself))

  left_alone : b.kept ≡ false → c ≡ a
  left_alone e =
      let never : (n d : ℤ) → Keeps (beside w r) s n d → ⊥ = λ n d k. ff_tt (sym e ∙ q.part.keeps n d k) in
      as_left (λ n d k. absurd (never n d k)) (λ k. right_unfixed w r s wide' (p.part.first k).keeps (never _ _))
      (λ k. right_unfixed w r s wide' (p.part.last k).keeps (never _ _))

  right_alone : a.kept ≡ false → c ≡ b
  right_alone e =
      let never : (n d : ℤ) → Keeps w s n d → ⊥ = λ n d k. ff_tt (sym e ∙ p.part.keeps n d k) in
      as_right (λ n d k. absurd (never n d k)) (λ k. left_unfixed w r s wide (q.part.first k).keeps (never _ _))
      (λ k. left_unfixed w r s wide (q.part.last k).keeps (never _ _))

  -- ---- a stroke along the border, which crosses no left and no right side
  module _ (flat : dx s ≡ pos 0) (across : (n d : ℤ) → Keeps w s n d ↔ Keeps (beside w r) s n d) where
    same_for_both : a ≡ b
    same_for_both = clipped_unique (right_too p across
        (λ _. named_as (left_not_in w (beside w r) s (≡→≤ flat)) (right_not_in w (beside w r) s (≡→≤ (sym flat))))
        (λ _. named_as (left_not_out w (beside w r) s (≡→≤ (sym flat))) (right_not_out w (beside w r) s (≡→≤ flat)))) q

    same_together : c ≡ a
    same_together = as_left (λ n d. (across n d).1) (λ _. right_not_in w both s (≡→≤ (sym flat))) (λ _. right_not_out w both s (≡→≤ flat))

  along_border : s.x1 ≡ w.right → s.x2 ≡ w.right → a ≡ b
  along_border x₁ x₂ = same_for_both
      (eq_by (s.x1 ∷ s.x2 ∷ w.right ∷ []) (x1 ⊖ x0) (con (pos 0)) (eqn (con (pos 1)) x1 x2 x₂ ⊹ eqn (neg (con (pos 1))) x0 x2 x₁) tt)
      (left_right w r s wide wide' x₁ x₂)

  pub clipped_put_together : PutTogether s a b c
  clipped_put_together = record {
    left_alone = left_alone;
    right_alone = right_alone;
    rightward = rightward;
    leftward = leftward;
    upright = λ k l e.
        let x₁ = upright w r s e (p.part.first k).keeps (q.part.first l).keeps in
        let x₂ = eq_by (s.x1 ∷ s.x2 ∷ w.right ∷ []) x1 x2 (eqn (con (pos 1)) (x1 ⊖ x0) (con (pos 0)) e ⊹ eqn (con (pos 1)) x0 x2 x₁) tt in
        let across = left_right w r s wide wide' x₁ x₂ in
        (same_together e across, same_together e across ∙ same_for_both e across);
  }

-- ---- the calls: what holds of three answers that are right, and of three that refuse the stroke
pub done_or_blank : {Holds : Window → Stroke → StrokeAnswer → StrokeAnswer → StrokeAnswer → Type 0}
    → ((w v : Window) (s : Stroke) (a b c : StrokeAnswer) → w.left <ℤ w.right → w.right <ℤ v.right
    → Clipped w s a → Clipped (beside w v.right) s b → Clipped (joined w v) s c → Holds w s a b c)
    → ((w : Window) (s : Stroke) (r : Refusal) → Holds w s (blank r) (blank r) (blank r))
    → (w v : Window) (s : Stroke) (a b c : StrokeAnswer) → ThreeAnswers w v s a b c → Holds w s a b c
done_or_blank {Holds} done refused w v s a b c t =
    let n = t.neighbours in
    let x = n.left in
    let y = n.right in
    let z = joined_not_refused w v n in
    done_or_refused (stroke_refusal s)
    (λ e. done w v s a b c (wide_left n) (wide_right n) (t.left.done (not_refused w s x e))
    (subst (λ (u : Window). Clipped u s b) (right_is n) (t.right.done (not_refused v s y e))) (t.together.done (not_refused (joined w v) s z e)))
    (λ e. transport (λ i. Holds w s
    (one_stroke_answer w s _ _ (refused_stroke x e) t.left i)
    (one_stroke_answer v s _ _ (refused_stroke y e) t.right i)
    (one_stroke_answer (joined w v) s _ _ (refused_stroke z e) t.together i)) (refused w s (stroke_refusal s)))

pub by_codes_too : ByCodesToo
by_codes_too w v s a b c n p q j = record { neighbours = n; left = p.clipping; right = q.clipping; together = j.clipping }

pub refused_alike : RefusedAlike
refused_alike = done_or_blank
    (λ w v s a b c _ _ p q j. (j.number ∙ sym p.number, j.place ∙ sym p.place, j.number ∙ sym q.number, j.place ∙ sym q.place))
    (λ w s r. (refl, refl, refl, refl))

pub kept_by_one : KeptByOne
kept_by_one = done_or_blank (λ w v s a b c. clipped_kept w v.right) (λ w s r. (inl, ⊎_elim (λ e. e) (λ e. e)))

pub parts_together : PartsTogether
parts_together = done_or_blank (λ w v s a b c. clipped_together w v.right) (λ w s r n d. (inl, ⊎_elim (λ i. i) (λ i. i)))

pub joined_answer : JoinedAnswer
joined_answer = done_or_blank (λ w v s a b c. clipped_put_together w v.right) (λ w s r. record {
  left_alone = λ _. refl;
  right_alone = λ _. refl;
  rightward = λ k. absurd (ff_tt k);
  leftward = λ k. absurd (ff_tt k);
  upright = λ _ _ _. (refl, refl);
})

-- two answers are two of three, for the joined window has one
third : {w v : Window} {s : Stroke} {a b : StrokeAnswer} → Neighbours w v → Clipping w s a → Clipping v s b
    → ThreeAnswers w v s a b (answer_of (joined w v) s)
third {w} {v} {s} n p q = record { neighbours = n; left = p; right = q; together = answer_of_is (joined w v) s }

pub share_one_fraction : ShareOneFraction
share_one_fraction w v s a b n p q k l d =
    let put = joined_answer w v s a b _ (third n p q) in
    ⊎_elim (λ h. inr (put.leftward k l h).0) (λ h. ⊎_elim (λ z. absurd (d z)) (λ h. inl (put.rightward k l h).0) h) (sign (dx s))

pub along_the_border : AlongTheBorder
along_the_border w v s a b n p q x₁ x₂ =
    done_or_blank {Holds = λ w s a b c. s.x1 ≡ w.right → s.x2 ≡ w.right → a ≡ b}
    (λ w v s a b c x y p q j. along_border w v.right x y p q j) (λ w s r _ _. refl) w v s a b _ (third n p q) x₁ x₂
