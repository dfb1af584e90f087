-- What is kept is from the later start to the earlier end of the two ways, if these have enough in common.
use mathlib.Core.Logic.{inl, inr, ⊎_elim}
use Rattle.std.proofs.Common.{sym, subst}
use Rattle.grid.specs.declared.Stroke.{Stroke}
use Rattle.cuts.specs.Cuts.{touches_at, CutIs}
use Rattle.std.specs.Prelude.{Some}
use Rattle.cuts.proofs.Cutting.{way_of_x, way_of_y, left_out_cut, part_cut_lem}
use Rattle.cuts.proofs.Touching.{turned, left_out_by_ways}
use Rattle.cuts.proofs.cut_stroke.Goals as goal

pub returns-then-apart : goal.returns-then-apart
returns-then-apart c =
    let r = c.requires in
    let x = way_of_x r.window_on_table r.stroke_on_table c.passage-x.ensures in
    let y = way_of_y r.window_on_table r.stroke_on_table c.passage-y.ensures in
    left_out_cut (touches_at c.args.least)
    (λ a clip. sym (left_out_by_ways r.window_on_table x y c.args.least r.least_bound (⊎_elim inr inl (c.apart.ensures.apart c.if-apart.true)) a clip))

pub finish-b-requires-clause-way_at : goal.finish-b-requires-clause-way_at
finish-b-requires-clause-way_at c = (way_of_x c.requires.window_on_table c.requires.stroke_on_table c.passage-x.ensures).way

pub finish-b-requires-clause-way_at_2 : goal.finish-b-requires-clause-way_at_2
finish-b-requires-clause-way_at_2 c = (way_of_y c.requires.window_on_table c.requires.stroke_on_table c.passage-y.ensures).way

pub start-a-requires-clause-way_at : goal.start-a-requires-clause-way_at
start-a-requires-clause-way_at c = (way_of_x c.requires.window_on_table c.requires.stroke_on_table c.passage-x.ensures).way

pub start-a-requires-clause-way_at_2 : goal.start-a-requires-clause-way_at_2
start-a-requires-clause-way_at_2 c = (way_of_y c.requires.window_on_table c.requires.stroke_on_table c.passage-y.ensures).way

pub returns : goal.returns
returns c =
    let r = c.requires in
    let x = way_of_x r.window_on_table r.stroke_on_table c.passage-x.ensures in
    let y = way_of_y r.window_on_table r.stroke_on_table c.passage-y.ensures in
    subst (λ (part : Stroke). CutIs (touches_at c.args.least) c.args.w c.args.s (Some part)) (sym c.part.ensures)
    (part_cut_lem r.window_on_table x y c.args.least r.least_bound c.start-a.ensures c.finish-b.ensures (turned (c.apart.ensures.overlap c.if-apart.false)))
