-- A refusal is pictured by its number and place; a drawing that is cut, by what was read and kept.
use Rattle.std.proofs.Common.{sym}
use native.Mathlib.Nat.{le_of_eq}
use native.Mathlib.Omega.{arith}
use lib.Seq.{length-take-le}
use Rattle.cutting.proofs.Theorems.{cut_of_lem, strokes_fit, rows_fit}
use Rattle.reports.proofs.Reported.{refused_report, cut_report}
use Rattle.picture.proofs.draw.Goals as goal

pub returns-in-Err-clause-picture : goal.returns-in-Err-clause-picture
returns-in-Err-clause-picture c = (refused_report c.in-Err.ensures c.put_refused.ensures).0

pub overflow_mul-numbers : goal.overflow_mul-numbers
overflow_mul-numbers c = omega (arith, strokes_fit (cut_of_lem c.in-Ok.ensures))

pub slice_bounds-put_picture-end : goal.slice_bounds-put_picture-end
slice_bounds-put_picture-end c = strokes_fit (cut_of_lem c.in-Ok.ensures)

pub slice_bounds-put_picture-end-in-Ok : goal.slice_bounds-put_picture-end-in-Ok
slice_bounds-put_picture-end-in-Ok c = sym (length-take-le _ _ (strokes_fit (cut_of_lem c.in-Ok.ensures)))

pub put_picture-end-requires-clause-drawn_in_bounds :
    goal.put_picture-end-requires-clause-drawn_in_bounds
put_picture-end-requires-clause-drawn_in_bounds c =
    le_of_eq (sym (length-take-le _ _ (strokes_fit (cut_of_lem c.in-Ok.ensures))))

pub put_picture-end-requires-clause-kept_in_bounds_2 :
    goal.put_picture-end-requires-clause-kept_in_bounds_2
put_picture-end-requires-clause-kept_in_bounds_2 c = let s = cut_of_lem c.in-Ok.ensures in omega (arith, strokes_fit s, rows_fit s)

pub returns-in-Ok-clause-picture : goal.returns-in-Ok-clause-picture
returns-in-Ok-clause-picture c = (cut_report (cut_of_lem c.in-Ok.ensures) c.put_picture-end.ensures).0
