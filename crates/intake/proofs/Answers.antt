-- The only result and the only answer for a point and for a window, computed from the outcomes of its numbers.
use mathlib.Core.Path.{◌≡◌, ◌∙◌}
use Rattle.std.specs.Prelude.{Result}
use Rattle.grid.specs.declared.Refusal.{Refusal}
use Rattle.grid.specs.declared.Window.{Window}
use Rattle.intake.specs.declared.Point.{Point}
use Rattle.intake.specs.declared.PointMm.{PointMm}
use Rattle.intake.specs.declared.WindowMm.{WindowMm}
use Rattle.intake.specs.declared.PointAnswer.{PointAnswer}
use Rattle.intake.specs.declared.WindowAnswer.{WindowAnswer}
use Rattle.intake.specs.Millimetres.{grid_point, point_answer, PointOnGrid, PointToGrid, grid_window, window_answer, WindowOnGrid, WindowToGrid}
use Rattle.intake.proofs.Outcome.{outcome, taken, taken_is}

abbrev pub point_found : PointMm → Result Point Refusal
point_found p = grid_point (outcome p.x) (outcome p.y)

pub found_point : (p : PointMm) {r : Result Point Refusal} → r ≡ point_found p → PointOnGrid p r
found_point p e = record { x = outcome p.x; y = outcome p.y; x_taken = taken p.x; y_taken = taken p.y; is = e }

pub point_found_is : {p : PointMm} {r : Result Point Refusal} → PointOnGrid p r → r ≡ point_found p
point_found_is r = r.is ∙ simp (taken_is r.x_taken, taken_is r.y_taken)

abbrev pub point_of : PointMm → PointAnswer
point_of p = point_answer (outcome p.x) (outcome p.y)

pub point_is : {p : PointMm} {a : PointAnswer} → PointToGrid p a → a ≡ point_of p
point_is r = r.answer ∙ simp (taken_is r.x_taken, taken_is r.y_taken)

pub to_point : (p : PointMm) {a : PointAnswer} → a ≡ point_of p → PointToGrid p a
to_point p e = record { x = outcome p.x; y = outcome p.y; x_taken = taken p.x; y_taken = taken p.y; answer = e }

abbrev pub window_found : WindowMm → Result Window Refusal
window_found w = grid_window (outcome w.left) (outcome w.bottom) (outcome w.right) (outcome w.top)

pub found_window : (w : WindowMm) {r : Result Window Refusal} → r ≡ window_found w → WindowOnGrid w r
found_window w e = record {
  left = outcome w.left;
  bottom = outcome w.bottom;
  right = outcome w.right;
  top = outcome w.top;
  left_taken = taken w.left;
  bottom_taken = taken w.bottom;
  right_taken = taken w.right;
  top_taken = taken w.top;
  is = e;
}

pub window_found_is : {w : WindowMm} {r : Result Window Refusal} → WindowOnGrid w r → r ≡ window_found w
window_found_is r = r.is ∙ simp (taken_is r.left_taken, taken_is r.bottom_taken, taken_is r.right_taken, taken_is r.top_taken)

abbrev pub window_of : WindowMm → WindowAnswer
window_of w = window_answer (outcome w.left) (outcome w.bottom) (outcome w.right) (outcome w.top)

pub window_is : {w : WindowMm} {a : WindowAnswer} → WindowToGrid w a → a ≡ window_of w
window_is r = r.answer ∙ simp (taken_is r.left_taken, taken_is r.bottom_taken, taken_is r.right_taken, taken_is r.top_taken)

pub to_window : (w : WindowMm) {a : WindowAnswer} → a ≡ window_of w → WindowToGrid w a
to_window w e = record {
  left = outcome w.left;
  bottom = outcome w.bottom;
  right = outcome w.right;
  top = outcome w.top;
  left_taken = taken w.left;
  bottom_taken = taken w.bottom;
  right_taken = taken w.right;
  top_taken = taken w.top;
  answer = e;
}
