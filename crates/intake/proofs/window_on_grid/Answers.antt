-- The first number that is refused decides.
use Rattle.std.proofs.lemmas.Result.{err_from_is_err_and}
use Rattle.intake.proofs.Places.{left_refused, bottom_refused, right_refused, top_refused, window_taken}
use Rattle.intake.proofs.window_on_grid.Goals as goal

pub returns-in_err-to_grid : goal.returns-in_err-to_grid
returns-in_err-to_grid c =
    let p = err_from_is_err_and c.from_residual.result c.from_residual.ensures.1 in
    rw (p.1, p.2) (left_refused c.in_err-to_grid.ensures)

pub returns-in_err-to_grid-2 : goal.returns-in_err-to_grid-2
returns-in_err-to_grid-2 c =
    let p = err_from_is_err_and c.from_residual-in_err-to_grid-2.result c.from_residual-in_err-to_grid-2.ensures.1 in
    rw (p.1, p.2) (bottom_refused c.in_ok-to_grid.ensures c.in_err-to_grid-2.ensures)

pub returns-in_err-to_grid-3 : goal.returns-in_err-to_grid-3
returns-in_err-to_grid-3 c =
    let p = err_from_is_err_and c.from_residual-in_err-to_grid-3.result c.from_residual-in_err-to_grid-3.ensures.1 in
    rw (p.1, p.2) (right_refused c.in_ok-to_grid.ensures c.in_ok-to_grid-2.ensures c.in_err-to_grid-3.ensures)

pub returns-in_err-to_grid-4 : goal.returns-in_err-to_grid-4
returns-in_err-to_grid-4 c =
    let p = err_from_is_err_and c.from_residual-in_err-to_grid-4.result c.from_residual-in_err-to_grid-4.ensures.1 in
    rw (p.1, p.2) (top_refused c.in_ok-to_grid.ensures c.in_ok-to_grid-2.ensures c.in_ok-to_grid-3.ensures c.in_err-to_grid-4.ensures)

pub returns : goal.returns
returns c = window_taken c.in_ok-to_grid.ensures c.in_ok-to_grid-2.ensures c.in_ok-to_grid-3.ensures c.in_ok-to_grid-4.ensures
