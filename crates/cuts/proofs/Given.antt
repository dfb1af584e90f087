-- Whether a stroke is given, by its answer: kept whole it is, missed it is not, and else it is as touches are asked for, or t0 and t1 are equal or not.
use mathlib.Core.Path.{◌≡◌, refl, sym, ap, ◌∙◌}
use mathlib.Core.Bool.{Bool, true, false, not, ◌&&◌, ◌||◌}
use mathlib.Core.Logic.{◌↔◌}
use lib.IntN.{◌*ℤ◌}
use Rattle.whole.proofs.Comparisons.{ff_tt, tt_ff}
use Rattle.fraction.specs.Fraction.{less_than, equal_to}
use Rattle.fraction.proofs.Comparing.{equal_taken, equal_left}
use Rattle.fraction.proofs.LowestTerms.{lowest_unique}
use Rattle.grid.specs.declared.Stroke.{Stroke}
use Rattle.grid.specs.declared.Window.{Window}
use Rattle.strokes.specs.Strokes.{Clipped}
use Rattle.strokes.specs.Workers.{whole_answer}
use Rattle.strokes.specs.declared.StrokeAnswer.{StrokeAnswer}
use Rattle.cuts.specs.Cuts.{is_given}

pub whole_given : (touches : Bool) (s : Stroke) → true ≡ is_given touches (whole_answer s)
unfolding equal_to less_than
whole_given true s = refl
whole_given false s = refl

module _ (a : StrokeAnswer) where
  abbrev Equal : Type 0
  Equal = a.t0.num *ℤ a.t1.den ≡ a.t1.num *ℤ a.t0.den

  pub missed_left_out : (touches : Bool) → a.kept ≡ false → is_given touches a ≡ false
  missed_left_out touches e = ap (λ (k : Bool). k && (touches || not (equal_to a.t0 a.t1))) e

  pub given_kept : (touches : Bool) → is_given touches a ≡ true → a.kept ≡ true
  given_kept touches e = go a.kept refl
    where
      go : (k : Bool) → a.kept ≡ k → a.kept ≡ true
      go true k = k
      go false k = absurd (ff_tt (sym (missed_left_out touches k) ∙ e))

  -- touches are asked for
  pub kept_given : a.kept ≡ true → is_given true a ≡ true
  kept_given e = ap (λ (k : Bool). k && true) e

  -- or not
  pub touch_left_out : Equal → is_given false a ≡ false
  touch_left_out t = go a.kept (equal_to a.t0 a.t1) refl
    where
      go : (k b : Bool) → equal_to a.t0 a.t1 ≡ b → (k && not b) ≡ false
      go true true e = refl
      go true false e = absurd (equal_left a.t0 a.t1 e t)
      go false b e = refl

  pub length_given : a.kept ≡ true → (Equal → ⊥) → is_given false a ≡ true
  length_given k n = go a.kept (equal_to a.t0 a.t1) k refl
    where
      go : (k b : Bool) → k ≡ true → equal_to a.t0 a.t1 ≡ b → (k && not b) ≡ true
      go true true h e = absurd (n (equal_taken a.t0 a.t1 e))
      go true false h e = refl
      go false b h e = absurd (ff_tt h)

  pub given_length : is_given false a ≡ true → Equal → ⊥
  given_length e t = tt_ff (sym e ∙ touch_left_out t)

-- ---- by the two fractions of an answer that is right, which are in lowest terms
module _ {w : Window} {s : Stroke} {a : StrokeAnswer} (c : Clipped w s a) where
  equal_fractions : a.kept ≡ true → Equal a → a.t0 ≡ a.t1
  equal_fractions k = lowest_unique a.t0 a.t1 (c.part.first k).lowest (c.part.last k).lowest

  pub given_exactly : (is_given false a ≡ true) ↔ ((a.kept ≡ true) × (a.t0 ≡ a.t1 → ⊥))
  given_exactly = (
    λ e. (given_kept a false e, λ t. given_length a e (λ i. (t i).num *ℤ (sym t i).den)),
    λ (k, n). length_given a k (λ e. n (equal_fractions k e)),
  )

  pub touch_exactly : a.kept ≡ true → is_given false a ≡ false → a.t0 ≡ a.t1
  touch_exactly k e = go (equal_to a.t0 a.t1) refl
    where
      go : (b : Bool) → equal_to a.t0 a.t1 ≡ b → a.t0 ≡ a.t1
      go true t = equal_fractions k (equal_taken a.t0 a.t1 t)
      go false t = absurd (tt_ff (sym (length_given a k (equal_left a.t0 a.t1 t)) ∙ e))
