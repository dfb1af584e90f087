-- The slots from 0 up to 64 are all that there are.
use Rattle.std.proofs.Common.{◌∙◌}
use Rattle.answers.proofs.Answering.{answers_by}
use Rattle.lister.proofs.Listing.{all_rows}
use Rattle.lister.proofs.show.Goals as goal

pub returns : goal.returns
returns c = answers_by (λ _ _ e. (e.0 ∙ all_rows c.args.table.now c.requires.value, e.1)) c.list.ensures
