-- The lines of the first k rows have been put.
use Rattle.std.proofs.Common.{◌≡◌, ◌+◌, ◌*◌, arith}
use Rattle.lines.proofs.Rows.{rows_to, rows_on, rows_end}
use Rattle.lines.proofs.put_rows.Goals as goal

pub loop-k-preserved : goal.loop-k-preserved
loop-k-preserved c =
    let next : c.loop-k.k * 5 + 5 ≡ (c.loop-k.k + 1) * 5 = omega arith in
    rows_to next
    (rows_on _ c.loop-k.invariant (omega arith) c.put_row-end.ensures.put c.put_row-end.ensures.upper_bound)

pub returns-clause-put : goal.returns-clause-put
returns-clause-put c = rows_end _ c.loop-k.invariant (omega arith)
