-- Laws of the Cohen-Sutherland call, proved in proofs/Runs.antt.
--   OneCountedAnswer    two answers that are right for one window and one stroke are equal, with their counts
--   NeverMoreThanFour   the call never reports more than four shortenings
--   EnginesAgree        the two engines agree in every field: refusal, fractions, points and sides are those of `strokes::liang_barsky`
use Rattle.std.specs.Prelude.{◌≡◌, ◌≤◌}
use Rattle.grid.specs.declared.Stroke.{Stroke}
use Rattle.grid.specs.declared.Window.{Window}
use Rattle.strokes.specs.Strokes.{Clipping}
use Rattle.strokes.specs.declared.StrokeAnswer.{StrokeAnswer}
use Rattle.codes.specs.Steps.{CohenSutherland}
use Rattle.codes.specs.declared.CountedAnswer.{CountedAnswer}

abbrev pub OneCountedAnswer : Type 0
OneCountedAnswer = (w : Window) (s : Stroke) (a b : CountedAnswer)
    → CohenSutherland w s a → CohenSutherland w s b → a ≡ b

abbrev pub NeverMoreThanFour : Type 0
NeverMoreThanFour = (w : Window) (s : Stroke) (r : CountedAnswer) → CohenSutherland w s r → r.shortenings ≤ 4

abbrev pub EnginesAgree : Type 0
EnginesAgree = (w : Window) (s : Stroke) (r : CountedAnswer) (a : StrokeAnswer)
    → CohenSutherland w s r → Clipping w s a → r.answer ≡ a
