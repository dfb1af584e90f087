-- `strokes::crossing` meets its contract: what is kept is from the later start to the earlier end of the two ways. Assumes nothing.
use mathlib.Core.Path.{sym, subst}
use Rattle.strokes.specs.Strokes.{Clipped}
use Rattle.strokes.proofs.Answers.{nothing_kept, span_kept}
use Rattle.strokes.proofs.Meetings.{none_kept, ends_span, ends_meet}
use Rattle.strokes.proofs.Reading.{way_plain}
use Rattle.strokes.proofs.Sides.{start_side, end_side}
use Rattle.strokes.proofs.crossing.Goals as goal

pub returns-then-apart : goal.returns-then-apart
returns-then-apart c =
    let w = c.requires.window_on_table in
    let s = c.requires.stroke_on_table in
    let x = way_plain w.left w.right s.x1 s.x2 c.passage-x.ensures in
    let y = way_plain w.bottom w.top s.y1 s.y2 c.passage-y.ensures in
    subst (Clipped c.args.w c.args.s) (sym c.missed.ensures) (nothing_kept (none_kept x y (c.apart.ensures.apart c.if-apart.true)))

pub finish-b-requires-clause-way_at : goal.finish-b-requires-clause-way_at
finish-b-requires-clause-way_at c = let w = c.requires.window_on_table in let s = c.requires.stroke_on_table in
    (way_plain w.left w.right s.x1 s.x2 c.passage-x.ensures).way

pub finish-b-requires-clause-way_at_2 : goal.finish-b-requires-clause-way_at_2
finish-b-requires-clause-way_at_2 c = let w = c.requires.window_on_table in let s = c.requires.stroke_on_table in
    (way_plain w.bottom w.top s.y1 s.y2 c.passage-y.ensures).way

pub start-a-requires-clause-way_at : goal.start-a-requires-clause-way_at
start-a-requires-clause-way_at c = let w = c.requires.window_on_table in let s = c.requires.stroke_on_table in
    (way_plain w.left w.right s.x1 s.x2 c.passage-x.ensures).way

pub start-a-requires-clause-way_at_2 : goal.start-a-requires-clause-way_at_2
start-a-requires-clause-way_at_2 c = let w = c.requires.window_on_table in let s = c.requires.stroke_on_table in
    (way_plain w.bottom w.top s.y1 s.y2 c.passage-y.ensures).way

pub returns : goal.returns
returns c =
    let w = c.requires.window_on_table in
    let s = c.requires.stroke_on_table in
    let x = way_plain w.left w.right s.x1 s.x2 c.passage-x.ensures in
    let y = way_plain w.bottom w.top s.y1 s.y2 c.passage-y.ensures in
    let a = c.start-a.ensures in
    let b = c.finish-b.ensures in
    let r = c.kept_answer.ensures in
    subst (Clipped c.args.w c.args.s) (sym r.answer)
    (span_kept (ends_span x y a b) (ends_meet x y a b (c.apart.ensures.overlap c.if-apart.false))
    c.start-a.result c.finish-b.result a.point b.point (start_side x y a.side) (end_side x y b.side) r.first r.last)
