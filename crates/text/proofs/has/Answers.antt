-- The library finds what the definition does.
use Rattle.std.proofs.Common.{◌∙◌}
use Rattle.text.proofs.Runs.{any_is_in}
use Rattle.text.proofs.has.Goals as goal

pub returns : goal.returns
returns c = c.contains.ensures.value ∙ any_is_in c.args.b c.args.text.now
