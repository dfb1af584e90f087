-- A word begins with a minus where its first byte is one.
use mathlib.Core.Path.{◌∙◌}
use Rattle.words.proofs.Numerals.{starts}
use Rattle.words.proofs.has_minus.Goals as goal

pub returns : goal.returns
returns c = c.starts_with.ensures.value ∙ starts c.args.word.now
