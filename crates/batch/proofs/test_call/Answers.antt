-- Each test in its order is a case of its own.
use Rattle.std.proofs.Common.{arith}
use Rattle.std.proofs.lemmas.Result.{err_from_is_err_and}
use Rattle.batch.proofs.Refusing.{on_table_lem, window_refuses, strokes_refuse, both_fine, room_for_all, room_counted}
use Rattle.batch.proofs.test_call.Goals as goal

pub returns-in_err-test_window : goal.returns-in_err-test_window
returns-in_err-test_window c =
    let p = err_from_is_err_and c.from_residual.result c.from_residual.ensures.1 in
    rw (p.1, p.2) (window_refuses c.in_err-test_window.ensures)

pub returns-in_err-test_strokes : goal.returns-in_err-test_strokes
returns-in_err-test_strokes c =
    let r = c.from_residual-in_err-test_strokes in
    let p = err_from_is_err_and r.result r.ensures.1 in
    rw (p.1, p.2) (strokes_refuse c.in_ok-test_window.ensures c.in_err-test_strokes.ensures)

pub returns-then-s-room : goal.returns-then-s-room
returns-then-s-room c = room_for_all c.in_ok-test_window.ensures c.in_ok-test_strokes.ensures (omega arith)

pub count_rows-requires-clause-window_on_table : goal.count_rows-requires-clause-window_on_table
count_rows-requires-clause-window_on_table c = (on_table_lem _ _ (both_fine _ _ c.in_ok-test_window.ensures c.in_ok-test_strokes.ensures)).0

pub count_rows-requires-clause-strokes_on_table : goal.count_rows-requires-clause-strokes_on_table
count_rows-requires-clause-strokes_on_table c = (on_table_lem _ _ (both_fine _ _ c.in_ok-test_window.ensures c.in_ok-test_strokes.ensures)).1

pub returns : goal.returns
returns c = room_counted c.in_ok-test_window.ensures c.in_ok-test_strokes.ensures c.test_room.ensures c.count_rows.ensures
