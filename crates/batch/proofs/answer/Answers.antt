-- What is refused is told, and else the rows have room and are written.
use Rattle.batch.proofs.Refusing.{call_refused, call_on, fits, call_done}
use Rattle.batch.proofs.answer.Goals as goal

pub returns-in-Err : goal.returns-in-Err
returns-in-Err c = rw c.refused_by.ensures (call_refused _ c.in-Err.ensures)

pub write_rows-requires-clause-window_on_table : goal.write_rows-requires-clause-window_on_table
write_rows-requires-clause-window_on_table c = (call_on c.args.out.now c.in-Ok.ensures).0

pub write_rows-requires-clause-strokes_on_table : goal.write_rows-requires-clause-strokes_on_table
write_rows-requires-clause-strokes_on_table c = (call_on c.args.out.now c.in-Ok.ensures).1

pub write_rows-requires-clause-xs_in_bounds : goal.write_rows-requires-clause-xs_in_bounds
write_rows-requires-clause-xs_in_bounds c = fits c.args.out.now c.in-Ok.ensures

pub returns-in-Ok : goal.returns-in-Ok
returns-in-Ok c = call_done _ c.in-Ok.ensures c.write_rows.ensures
