-- What is put and what is left to put are all lines; each took at most 580 bytes.
use Rattle.std.proofs.Common.{◌≡◌, sym, ◌∙◌, arith}
use Rattle.book_rows.proofs.Rows.{putting_on, putting_over, putting_end, row_used, row_free}
use Rattle.book_rows.proofs.put_rows.Goals as goal
use Rattle.book_rows.proofs.put_rows.Goals.{then-in_use, else-in_use}

pub loop-k-preserved : goal.loop-k-preserved
loop-k-preserved c =
    let l = c.loop-k in
    elim c.if-in_use.branch [
      | then-in_use w ↦
          let e = row_used _ _ l.k c.loop-k-test.true c.requires.to_bound c.requires.book_len (sym c.in_use.ensures ∙ w.if-in_use.true) w.strip_at.ensures in
          record {
            few = omega arith;
            short = omega arith;
            lines = rw (w.page-is, w.end-is) (putting_on _ _ l.invariant.lines w.put_row-end.ensures.put e);
          }
      | else-in_use w ↦
          let e = row_free _ _ l.k c.loop-k-test.true c.requires.to_bound c.requires.book_len (sym c.in_use.ensures ∙ w.if-in_use.false) in
          record {
            few = omega arith;
            short = omega arith;
            lines = rw (w.page-is, w.end-is) (putting_over _ _ l.invariant.lines e);
          }
    ]

pub returns-clause-put : goal.returns-clause-put
returns-clause-put c =
    let e : c.loop-k.k ≡ c.args.to = omega arith in
    putting_end _ _ c.loop-k.invariant.lines e
