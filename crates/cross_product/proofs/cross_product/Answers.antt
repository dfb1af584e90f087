-- `cross_product::cross_product` meets its contract: the refusals in their order, of which a stroke inside can have none, then the two plain cases. One
-- that is in neither has a length, for a dot that reaches the window lies in it. Assumes nothing.
use mathlib.Core.Path.{sym, subst, ap, ◌∙◌}
use Rattle.grid.specs.declared.Refusal.{Refusal}
use Rattle.grid.proofs.Refusals.{window_on_table, stroke_on_table, stroke_fine}
use Rattle.grid.proofs.Tested.{was_fine, was_refused}
use Rattle.strokes.specs.Strokes.{Clipped, Clipping, blank}
use Rattle.strokes.proofs.Answers.{nothing_kept, inside_always, inside_on_table, whole_answer_lem}
use Rattle.strokes.proofs.Refusing.{refused_window, refused_stroke, done_stroke}
use Rattle.cross_product.proofs.Reached.{dot_inside}
use Rattle.cross_product.proofs.cross_product.Goals as goal

pub returns-in-Err : goal.returns-in-Err
returns-in-Err c = let r = was_refused _ c.in-Err.ensures in
    subst (Clipping c.args.w c.args.s) (ap blank (sym r.0) ∙ sym c.refused.ensures) (refused_window r.1)

pub returns-then-inside : goal.returns-then-inside
returns-then-inside c =
    let z = was_fine _ c.in_default.ensures in
    let i = c.inside.ensures.ends_inside c.if-inside.true in
    let on = inside_on_table (window_on_table _ z) i in
    done_stroke z (ap (λ (r : Refusal). r.number) (sym (stroke_fine _ on)))
    (subst (Clipped c.args.w c.args.s) (sym c.whole_answer.ensures) (whole_answer_lem (inside_always i)))

pub returns-in-Err-test_stroke : goal.returns-in-Err-test_stroke
returns-in-Err-test_stroke c = let r = was_refused _ c.in-Err-test_stroke.ensures in
    subst (Clipping c.args.w c.args.s) (ap blank (sym r.0) ∙ sym c.refused-in-Err-test_stroke.ensures)
    (refused_stroke (was_fine _ c.in_default.ensures) r.1)

pub returns-then-outside : goal.returns-then-outside
returns-then-outside c =
    done_stroke (was_fine _ c.in_default.ensures) (was_fine _ c.in_default-test_stroke.ensures)
    (subst (Clipped c.args.w c.args.s) (sym c.missed.ensures) (nothing_kept (c.outside.ensures.fact c.if-outside.true)))

pub crossing-requires-clause-window_on_table : goal.crossing-requires-clause-window_on_table
crossing-requires-clause-window_on_table c = window_on_table _ (was_fine _ c.in_default.ensures)

pub crossing-requires-clause-stroke_on_table : goal.crossing-requires-clause-stroke_on_table
crossing-requires-clause-stroke_on_table c = stroke_on_table _ (was_fine _ c.in_default-test_stroke.ensures)

pub returns : goal.returns
returns c = done_stroke (was_fine _ c.in_default.ensures) (was_fine _ c.in_default-test_stroke.ensures) c.crossing.ensures

pub crossing-requires-clause-has_length : goal.crossing-requires-clause-has_length
crossing-requires-clause-has_length c p q = c.inside.ensures.fact c.if-inside.false (dot_inside (c.outside.ensures.reaching c.if-outside.false) p q)
