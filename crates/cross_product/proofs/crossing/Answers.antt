-- `cross_product::crossing` meets its contract: beside the line nothing is kept, else what is kept goes from the found start to the found end. Assumes nothing.
use mathlib.Core.Path.{sym, subst}
use Rattle.strokes.specs.Strokes.{Clipped}
use Rattle.strokes.proofs.Answers.{nothing_kept}
use Rattle.crossed_sides.proofs.Missed.{one_side_missed}
use Rattle.cross_product.proofs.Given.{course_plain}
use Rattle.cross_product.proofs.Kept.{found_kept}
use Rattle.cross_product.proofs.crossing.Goals as goal

pub find-requires-clause-course_of : goal.find-requires-clause-course_of
find-requires-clause-course_of c = let w = c.requires.window_on_table in let s = c.requires.stroke_on_table in
    course_plain w.left w.right s.x1 s.x2 c.course_past-x.ensures

pub find-requires-clause-course_of_2 : goal.find-requires-clause-course_of_2
find-requires-clause-course_of_2 c = let w = c.requires.window_on_table in let s = c.requires.stroke_on_table in
    course_plain w.bottom w.top s.y1 s.y2 c.course_past-y.ensures

pub returns-in_default : goal.returns-in_default
returns-in_default c = subst (Clipped c.args.w c.args.s) (sym c.missed.ensures) (nothing_kept (one_side_missed c.args.w c.args.s c.in_default.ensures))

pub finish-b-requires-clause-course_of : goal.finish-b-requires-clause-course_of
finish-b-requires-clause-course_of c = let w = c.requires.window_on_table in let s = c.requires.stroke_on_table in
    course_plain w.left w.right s.x1 s.x2 c.course_past-x.ensures

pub finish-b-requires-clause-course_of_2 : goal.finish-b-requires-clause-course_of_2
finish-b-requires-clause-course_of_2 c = let w = c.requires.window_on_table in let s = c.requires.stroke_on_table in
    course_plain w.bottom w.top s.y1 s.y2 c.course_past-y.ensures

pub start-a-requires-clause-course_of : goal.start-a-requires-clause-course_of
start-a-requires-clause-course_of c = let w = c.requires.window_on_table in let s = c.requires.stroke_on_table in
    course_plain w.left w.right s.x1 s.x2 c.course_past-x.ensures

pub start-a-requires-clause-course_of_2 : goal.start-a-requires-clause-course_of_2
start-a-requires-clause-course_of_2 c = let w = c.requires.window_on_table in let s = c.requires.stroke_on_table in
    course_plain w.bottom w.top s.y1 s.y2 c.course_past-y.ensures

pub returns : goal.returns
returns c = found_kept c.start-a.ensures c.finish-b.ensures c.kept_answer.ensures
