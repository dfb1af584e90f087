-- `codes::cohen_sutherland` meets its contract: a refused call has count 0, and where nothing is refused the rule runs. Assumes nothing.
use mathlib.Core.Path.{◌≡◌, refl, sym, ap, subst, ◌∙◌}
use Rattle.grid.specs.declared.Refusal.{Refusal}
use Rattle.grid.specs.declared.Stroke.{Stroke}
use Rattle.grid.specs.declared.Window.{Window}
use Rattle.grid.proofs.Refusals.{window_on_table, stroke_on_table}
use Rattle.grid.proofs.Tested.{was_fine, was_refused}
use Rattle.strokes.specs.Strokes.{Clipping, blank, stroke_call_refusal}
use Rattle.strokes.proofs.Refusing.{nothing_refused, not_refused, refused_window, refused_stroke, done_stroke}
use Rattle.codes.specs.Steps.{CohenSutherland}
use Rattle.codes.specs.declared.CountedAnswer.{CountedAnswer}
use Rattle.codes.proofs.cohen_sutherland.Goals as goal

refused : {w : Window} {s : Stroke} {r : Refusal} {q : CountedAnswer} → ((stroke_call_refusal w s).number ≡ 0 → ⊥) → Clipping w s (blank r)
    → q ≡ record { answer = blank r; shortenings = 0 } → CohenSutherland w s q
refused {w} {s} n p e = subst (CohenSutherland w s) (sym e) (record { clipping = p; refused = λ _. refl; done = λ z. absurd (n z) })

abbrev counted : Refusal → CountedAnswer
counted r = record { answer = blank r; shortenings = 0 }

pub returns-in-Err : goal.returns-in-Err
returns-in-Err c = let r = was_refused _ c.in-Err.ensures in
    refused (λ z. r.1 (nothing_refused _ _ z).0) (refused_window r.1) (c.refused.ensures ∙ ap counted r.0)

pub returns-in-Err-test_stroke : goal.returns-in-Err-test_stroke
returns-in-Err-test_stroke c = let r = was_refused _ c.in-Err-test_stroke.ensures in
    refused (λ z. r.1 (nothing_refused _ _ z).1) (refused_stroke (was_fine _ c.in_default.ensures) r.1) (c.refused-in-Err-test_stroke.ensures ∙ ap counted r.0)

pub clipped-requires-clause-window_on_table : goal.clipped-requires-clause-window_on_table
clipped-requires-clause-window_on_table c = window_on_table _ (was_fine _ c.in_default.ensures)

pub clipped-requires-clause-stroke_on_table : goal.clipped-requires-clause-stroke_on_table
clipped-requires-clause-stroke_on_table c = stroke_on_table _ (was_fine _ c.in_default-test_stroke.ensures)

pub returns : goal.returns
returns c =
    let z = was_fine _ c.in_default.ensures in
    let y = was_fine _ c.in_default-test_stroke.ensures in
    let h = c.clipped.ensures in
    record { clipping = done_stroke z y h.clipped; refused = λ n. absurd (n (not_refused _ _ z y)); done = λ _. h.run }
