-- A short line has few numbers.
use borrow.Author.Rules.{rules}
use Rattle.batch_commands.proofs.Short.{widened}
use Rattle.batch_commands.proofs.asked.Goals as goal

pub returns-then-rest-lt512-clause-batch_line : goal.returns-then-rest-lt512-clause-batch_line
returns-then-rest-lt512-clause-batch_line c = widened (search rules) c.listed.ensures.batch_line
