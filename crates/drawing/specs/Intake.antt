-- The intake as a drawing uses it.
--   Intake         an answer for each point and for each window in millimetres
--   ByIntake f r   r is what f makes of the intake: of the answers that `point_to_grid` and `window_to_grid` give
use Rattle.std.specs.Prelude.{◌≡◌}
use Rattle.intake.specs.Millimetres.{PointToGrid, WindowToGrid}
use Rattle.intake.specs.declared.PointMm.{PointMm}
use Rattle.intake.specs.declared.PointAnswer.{PointAnswer}
use Rattle.intake.specs.declared.WindowMm.{WindowMm}
use Rattle.intake.specs.declared.WindowAnswer.{WindowAnswer}

pub record Intake : Type 0 where
  pub point : PointMm → PointAnswer
  pub window : WindowMm → WindowAnswer

pub record ByIntake {A : Type 0} (f : Intake → A) (r : A) : Type 0 where
  pub intake : Intake
  pub points : (p : PointMm) → PointToGrid p (intake.point p)
  pub windows : (w : WindowMm) → WindowToGrid w (intake.window w)
  pub is : r ≡ f intake
