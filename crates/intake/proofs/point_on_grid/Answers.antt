-- The first number that is refused decides.
use Rattle.std.proofs.lemmas.Result.{err_from_is_err_and}
use Rattle.intake.proofs.Places.{x_refused, y_refused, point_taken}
use Rattle.intake.proofs.point_on_grid.Goals as goal

pub returns-in_err-to_grid : goal.returns-in_err-to_grid
returns-in_err-to_grid c =
    let p = err_from_is_err_and c.from_residual.result c.from_residual.ensures.1 in
    rw (p.1, p.2) (x_refused c.in_err-to_grid.ensures)

pub returns-in_err-to_grid-2 : goal.returns-in_err-to_grid-2
returns-in_err-to_grid-2 c =
    let r = c.from_residual-in_err-to_grid-2 in
    let p = err_from_is_err_and r.result r.ensures.1 in
    rw (p.1, p.2) (y_refused c.in_ok-to_grid.ensures c.in_err-to_grid-2.ensures)

pub returns : goal.returns
returns c = point_taken c.in_ok-to_grid.ensures c.in_ok-to_grid-2.ensures
