-- A short line has few bytes.
use borrow.Author.Rules.{rules}
use Rattle.drawing_commands.proofs.Files.{widened}
use Rattle.drawing_commands.proofs.draw.Goals as goal

pub returns-then-rest-lt512-clause-draw_line : goal.returns-then-rest-lt512-clause-draw_line
returns-then-rest-lt512-clause-draw_line c = widened (search rules) c.drawn.ensures.draw_line
