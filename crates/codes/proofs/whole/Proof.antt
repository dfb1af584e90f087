-- `codes::whole` meets its contract: it hands on what `whole_answer` ensures. Assumes nothing.
use mathlib.Core.Path.{ap}
use borrow.Author.Rules.{rules}
use Rattle.strokes.specs.declared.StrokeAnswer.{StrokeAnswer}
use Rattle.codes.specs.declared.CountedAnswer.{CountedAnswer}
use Rattle.codes.proofs.whole.Statement.{statement}
use Rattle.codes.proofs.whole.Tie as tie

whole-answer-requires : tie.Need-whole_answer-requires
whole-answer-requires c κs = search rules

returns : tie.Need-returns
returns c = let counted : StrokeAnswer → CountedAnswer = λ a. record { answer = a; shortenings = 0 } in ap counted c.whole_answer.ensures

pub whole_spec : {M : Type 1} → statement M
whole_spec = tie.close (tie.spec whole-answer-requires returns)
