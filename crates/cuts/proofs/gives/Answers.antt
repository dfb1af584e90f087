-- The plain cases are known, and else it is whether the two ways overlap by enough.
use mathlib.Core.Bool.{Bool, not}
use mathlib.Core.Logic.{inl, inr, ⊎_elim}
use Rattle.std.proofs.Common.{subst}
use Rattle.strokes.proofs.Answers.{inside_always}
use Rattle.cuts.specs.Cuts.{SaysGiven}
use Rattle.cuts.proofs.Cutting.{way_of_x, way_of_y, whole_gives, ways_give}
use Rattle.cuts.proofs.Touching.{turned}
use Rattle.cuts.proofs.gives.Goals as goal

pub returns-in-Inside : goal.returns-in-Inside
returns-in-Inside c = whole_gives c.args.touches (inside_always c.in-Inside.ensures)

pub returns-in-Neither : goal.returns-in-Neither
returns-in-Neither c =
    let r = c.requires in
    let x = way_of_x r.window_on_table r.stroke_on_table c.passage-x.ensures in
    let y = way_of_y r.window_on_table r.stroke_on_table c.passage-y.ensures in
    let least = c.least_of.ensures in
    subst (λ (b : Bool). SaysGiven b c.args.w c.args.s (not c.apart.result)) least.1
    (ways_give r.window_on_table x y c.least_of.result least.0 c.apart.result
    (λ e. ⊎_elim inr inl (c.apart.ensures.apart e)) (λ e. turned (c.apart.ensures.overlap e)))
