-- Each return is the definition at the tests that led there.
use borrow.Author.Tests.{lt-ltb, le-ltb}
use Rattle.drawing.specs.Pen.{same, after}
use Rattle.drawing.proofs.Computed.{by_computed}
use Rattle.drawing.proofs.pen.close.Goals as goal

pub returns-then-not-pen : goal.returns-then-not-pen
unfolding after
returns-then-not-pen c = by_computed (simp c.if-not-pen.true)

pub returns-then-eq : goal.returns-then-eq
unfolding after same
returns-then-eq c = by_computed (simp (c.if-not-pen.false, ← c.if-eq.ensures))

pub returns-then-pen-lt-MOST_STROKES : goal.returns-then-pen-lt-MOST_STROKES
unfolding after same
returns-then-pen-lt-MOST_STROKES c =
    by_computed (simp (c.if-not-pen.false, ← c.if-eq.ensures, lt-ltb _ _ c.if-pen-lt-MOST_STROKES.true, c.drawn_to.ensures))

pub returns : goal.returns
unfolding after same
returns c = by_computed (simp (c.if-not-pen.false, ← c.if-eq.ensures, le-ltb _ _ c.if-pen-lt-MOST_STROKES.false))
