-- A stroke call that refuses, and one that does not: the first refusal that applies decides.
use mathlib.Core.Path.{◌≡◌, sym, ap, ◌∙◌}
use mathlib.Core.List.{[], ◌∷◌}
use Rattle.grid.specs.declared.Refusal.{Refusal}
use Rattle.grid.specs.declared.Stroke.{Stroke}
use Rattle.grid.specs.declared.Window.{Window}
use Rattle.grid.specs.Refusals.{first, window_refusal, stroke_refusal}
use Rattle.grid.proofs.Refusals.{stops, goes_on, all_done}
use Rattle.strokes.specs.Strokes.{Clipped, Clipping, stroke_call_refusal, blank}
use Rattle.strokes.specs.declared.StrokeAnswer.{StrokeAnswer}

-- nothing is refused exactly where both parts refuse nothing
pub not_refused : (w : Window) (s : Stroke) → (window_refusal w).number ≡ 0 → (stroke_refusal s).number ≡ 0 → (stroke_call_refusal w s).number ≡ 0
unfolding stroke_call_refusal first
not_refused w s z y = ap (λ (q : Refusal). q.number) (goes_on (window_refusal w) (stroke_refusal s ∷ []) z ∙ goes_on (stroke_refusal s) [] y)

pub nothing_refused : (w : Window) (s : Stroke) → (stroke_call_refusal w s).number ≡ 0 → ((window_refusal w).number ≡ 0) × ((stroke_refusal s).number ≡ 0)
unfolding stroke_call_refusal
nothing_refused w s z = let p = all_done (window_refusal w) (stroke_refusal s ∷ []) z in (p.0, (all_done (stroke_refusal s) [] p.1).0)

module _ {w : Window} {s : Stroke} where
  refused_by : {r : Refusal} → stroke_call_refusal w s ≡ r → (r.number ≡ 0 → ⊥) → Clipping w s (blank r)
  refused_by e n = record { refused = λ _. ap blank (sym e); done = λ z. absurd (n (ap (λ (q : Refusal). q.number) (sym e) ∙ z)) }

  pub refused_window : ((window_refusal w).number ≡ 0 → ⊥) → Clipping w s (blank (window_refusal w))
  unfolding stroke_call_refusal
  refused_window n = refused_by (stops _ _ n) n

  module _ (z : (window_refusal w).number ≡ 0) where
    pub refused_stroke : ((stroke_refusal s).number ≡ 0 → ⊥) → Clipping w s (blank (stroke_refusal s))
    unfolding stroke_call_refusal
    refused_stroke n = refused_by (goes_on _ _ z ∙ stops _ _ n) n

    pub done_stroke : (stroke_refusal s).number ≡ 0 → {a : StrokeAnswer} → Clipped w s a → Clipping w s a
    done_stroke y c = record { refused = λ n. absurd (n (not_refused w s z y)); done = λ _. c }
