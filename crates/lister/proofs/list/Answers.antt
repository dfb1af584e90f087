-- The rows, or the line that says that there is none.
use Rattle.std.proofs.Common.{refl, ◌∙◌}
use Rattle.answers.proofs.Answering.{put_answers, answers_by}
use Rattle.lister.proofs.Listing.{no_rows, some_rows}
use Rattle.lister.proofs.list.Goals as goal

pub returns-then-rows-eq0 : goal.returns-then-rows-eq0
returns-then-rows-eq0 c =
    answers_by (λ _ _ e. (e.0 ∙ no_rows _ c.put_rows-rows.ensures.put c.if-rows-eq0.true, e.1)) (put_answers _ c.put-end.ensures refl)

pub returns : goal.returns
returns c =
    let p = c.put_rows-rows.ensures.put in
    answers_by (λ _ _ e. (e.0 ∙ some_rows _ p c.if-rows-eq0.false, e.1)) (put_answers _ p refl)
