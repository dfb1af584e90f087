-- The numbers before this one are put.
use native.Mathlib.Omega.{arith}
use borrow.Author.Rules.{rules}
use lib.IntN.{pos}
use lib.ListN.{get_or}
use mir.Syntax.{w32}
use Rattle.whole.proofs.Comparisons.{back}
use Rattle.output.proofs.Rows.{rows_on, rows_end}
use Rattle.output.proofs.put_integers.Goals as goal

pub loop-number-preserved : goal.loop-number-preserved
loop-number-preserved c = let l = c.loop-number in
    let number = back w32 (get_or c.args.numbers.now l.number-index (pos 0)) (search rules) in
    rows_on _ l.invariant (omega arith) (rw number at c.put_integer-end.ensures.put) c.put_integer-end.ensures.upper_bound

pub returns : goal.returns
returns c = let r = c.loop-number.invariant in
    rows_end _ r (omega arith) (omega (arith, r.short, r.put.same))
