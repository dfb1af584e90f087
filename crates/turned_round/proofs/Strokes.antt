-- One stroke turned round: what answers it, made from the answer of the stroke, is right, and so it is the only answer that is.
use mathlib.Core.Path.{◌≡◌, refl, sym, ◌∙◌, subst}
use mathlib.Core.Bool.{Bool, true, false}
use lib.IntN.{ℤ, ◌-ℤ◌}
use Rattle.whole.proofs.Comparisons.{ff_tt, tt_ff}
use Rattle.grid.specs.declared.Refusal.{Refusal}
use Rattle.grid.specs.declared.Stroke.{Stroke}
use Rattle.grid.specs.declared.Window.{Window}
use Rattle.grid.specs.Refusals.{none}
use Rattle.grid.proofs.Refusals.{done_or_refused}
use Rattle.strokes.specs.Strokes.{Keeps, Clipped, stroke_call_refusal, blank}
use Rattle.strokes.specs.declared.StrokeAnswer.{StrokeAnswer}
use Rattle.strokes.proofs.Answers.{nothing_kept}
use Rattle.strokes.proofs.Unique.{clipped_unique}
use Rattle.turned_round.specs.Laws.{turn_round, one_minus, AnswerTurnedRound, TurnedRound, TurnedRoundByCodes}
use Rattle.turned_round.proofs.Parts.{keeps_back, point_back, first_back, last_back}
use Rattle.turned_round.proofs.Refusing.{SameRefusal, call_turned}
use Rattle.turned_round.proofs.Sides.{conditions_turned, start_back, end_back}

-- ---- an answer that keeps nothing, and its like
blank_turned : {r q : Refusal} → SameRefusal r q → AnswerTurnedRound (blank r) (blank q)
blank_turned h = record {
  number = h.number;
  place = h.place;
  kept = refl;
  start = (refl, refl);
  finish = (refl, refl);
  fractions = λ e. absurd (ff_tt e);
  missed = λ _. (refl, refl);
  sides = (refl, refl);
}

-- ---- a stroke in which nothing is refused
abbrev exchanged : StrokeAnswer → StrokeAnswer
exchanged a = record {
  number = 0;
  place = 0;
  kept = true;
  t0 = one_minus a.t1;
  t1 = one_minus a.t0;
  ax = a.bx;
  ay = a.by;
  bx = a.ax;
  by = a.ay;
  side0 = a.side1;
  side1 = a.side0;
}

module _ {w : Window} {s : Stroke} {a : StrokeAnswer} (p : Clipped w s a) where
  exchanged_is : a.kept ≡ true → Clipped w (turn_round s) (exchanged a)
  exchanged_is e = record {
    number = refl;
    place = refl;
    part = record {
      keeps = λ n d k. refl;
      first = λ _. first_back {K' = Keeps w (turn_round s)} keeps_back keeps_back (p.part.last e);
      last = λ _. last_back {K' = Keeps w (turn_round s)} keeps_back keeps_back (p.part.first e);
      missed = λ f. absurd (tt_ff f);
    };
    start = λ _. point_back (p.finish e);
    finish = λ _. point_back (p.start e);
    start_side = λ _. start_back (conditions_turned w s) a.t1 (p.end_side e);
    end_side = λ _. end_back (conditions_turned w s) a.t0 (p.start_side e);
    missed = λ f. absurd (tt_ff f);
  }

  pub clipped_turned : {b : StrokeAnswer} → Clipped w (turn_round s) b → AnswerTurnedRound a b
  clipped_turned {b} q = go a.kept refl
    where
      go : (k : Bool) → a.kept ≡ k → AnswerTurnedRound a b
      go true e = subst (AnswerTurnedRound a) (clipped_unique (exchanged_is e) q) (record {
        number = sym p.number;
        place = λ _. sym p.place;
        kept = sym e;
        start = (refl, refl);
        finish = (refl, refl);
        fractions = λ _. (refl, refl);
        missed = λ f. absurd (tt_ff (sym e ∙ f));
        sides = (refl, refl);
      })
      go false e =
          let never = nothing_kept (λ (n d : ℤ) (k : Keeps w (turn_round s) n d). ff_tt (sym e ∙ p.part.keeps (d -ℤ n) d (keeps_back n d k))) in
          subst (λ (x : StrokeAnswer). AnswerTurnedRound x b) (sym (p.missed e))
          (subst (AnswerTurnedRound (blank none)) (clipped_unique never q) (blank_turned (record { number = refl; place = λ _. refl })))

-- ---- the calls
pub turned_round : TurnedRound
turned_round w s a b p q =
    let same = call_turned w s in
    done_or_refused (stroke_call_refusal w s)
    (λ z. clipped_turned (p.done z) (q.done (same.number ∙ z)))
    (λ n.
    subst (λ (x : StrokeAnswer). AnswerTurnedRound x b) (sym (p.refused n))
    (subst (AnswerTurnedRound (blank (stroke_call_refusal w s))) (sym (q.refused (λ z. n (sym same.number ∙ z)))) (blank_turned same)))

pub turned_round_by_codes : TurnedRoundByCodes
turned_round_by_codes w s a b p q = turned_round w s a.answer b.answer p.clipping q.clipping
