-- Each return is the definition at the tests that led there and what the intake said.
use borrow.Author.Tests.{lt-ltb, le-ltb, not-true, not-false}
use Rattle.std.proofs.Common.{◌≡◌, ℕ, ◌+◌, true, false, sym, arith}
use Rattle.intake.specs.declared.Point.{Point}
use Rattle.intake.proofs.Places.{point_refused}
use Rattle.drawing.specs.Pen.{after}
use Rattle.drawing.specs.declared.pen.Pen.{Pen}
use Rattle.drawing.specs.declared.pen.Turn.{Turn}
use Rattle.drawing.proofs.Computed.{by_computed, point_lands, point_fails}
use Rattle.drawing.proofs.pen.line_to.Goals as goal

abbrev draws : Pen → ℕ → Point → Turn
draws pen next p = Turn.Draws (record { moved = true; here = p; start = pen.start; strokes = pen.strokes + 1 }) next

pub returns-then-not-pen : goal.returns-then-not-pen
unfolding after
returns-then-not-pen c = let none : c.args.pen.moved ≡ false = not-true c.args.pen.moved c.if-not-pen.true in by_computed (simp none)

pub returns-then-pen-ge-MOST_STROKES : goal.returns-then-pen-ge-MOST_STROKES
unfolding after
returns-then-pen-ge-MOST_STROKES c =
    let moved : c.args.pen.moved ≡ true = not-false c.args.pen.moved c.if-not-pen.false in by_computed (simp (moved, le-ltb _ _ c.if-pen-ge-MOST_STROKES.true))

pub overflow_mul-result : goal.overflow_mul-result
overflow_mul-result c = omega (arith, (point_refused c.in-Err.ensures).1)

pub overflow_add-result-in-Err : goal.overflow_add-result-in-Err
overflow_add-result-in-Err c = omega (arith, (point_refused c.in-Err.ensures).1)

pub returns-in-Ok : goal.returns-in-Ok
unfolding after
returns-in-Ok c =
    let moved : c.args.pen.moved ≡ true = not-false c.args.pen.moved c.if-not-pen.false in
    by_computed (simp (moved, lt-ltb _ _ c.if-pen-ge-MOST_STROKES.false, c.drawn_to.ensures)
    (sym (point_lands c.args.at (draws c.args.pen c.args.next) c.in-Ok.ensures)))

pub returns-in-Err : goal.returns-in-Err
unfolding after
returns-in-Err c =
    let moved : c.args.pen.moved ≡ true = not-false c.args.pen.moved c.if-not-pen.false in
    by_computed (simp (moved, lt-ltb _ _ c.if-pen-ge-MOST_STROKES.false)
    (sym (point_fails c.args.at (draws c.args.pen c.args.next) c.in-Err.ensures)))
