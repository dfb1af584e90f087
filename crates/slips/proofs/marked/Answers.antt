-- The library compares the three bytes that the definition does.
use Rattle.std.proofs.Common.{◌∙◌}
use Rattle.slips.proofs.Tests.{mark_is}
use Rattle.slips.proofs.marked.Goals as goal

pub returns : goal.returns
returns c = c.starts_with.ensures.value ∙ mark_is c.args.line.now
