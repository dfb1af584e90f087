-- The two numbers are those of the limit and of the side.
use Rattle.std.proofs.Common.{sym, subst, rules, get_or}
use lib.IntN.{ℤ, pos}
use Rattle.convex.specs.Corners.{grid_point}
use Rattle.grid.specs.Sides.{side_at}
use Rattle.limits.specs.Sides.{window_of}
use Rattle.limits.specs.Limits.{limit_line}
use Rattle.limits.proofs.Sides.{number_at}
use Rattle.crossings.specs.Tags.{side_stroke}
use Rattle.crossings.specs.Meetings.{Meets}
use Rattle.crossings.proofs.Meetings.{side_meets_upright, side_meets_level}
use Rattle.crossings.proofs.side_crossing.Goals as goal

pub returns-then-l-eq0 : goal.returns-then-l-eq0
returns-then-l-eq0 c =
    let l = c.args.l in
    let w = window_of c.args.numbers.now in
    let k = side_at c.args.s in
    let met : Meets (limit_line l) (side_stroke w k) (grid_point l.c (get_or c.args.numbers.now c.args.s (pos 0))) =
    subst (λ (n : ℤ). Meets (limit_line l) (side_stroke w k) (grid_point l.c n)) (sym (number_at c.args.numbers.now c.args.s c.requires.s_bound))
    (side_meets_upright w l c.requires.window_on_table k c.if-l-eq0.true) in
    search rules

pub returns : goal.returns
returns c =
    let l = c.args.l in
    let w = window_of c.args.numbers.now in
    let k = side_at c.args.s in
    let met : Meets (limit_line l) (side_stroke w k) (grid_point (get_or c.args.numbers.now c.args.s (pos 0)) l.c) =
    subst (λ (n : ℤ). Meets (limit_line l) (side_stroke w k) (grid_point n l.c)) (sym (number_at c.args.numbers.now c.args.s c.requires.s_bound))
    (side_meets_level w l c.requires.window_on_table k c.if-l-eq0.false) in
    search rules
