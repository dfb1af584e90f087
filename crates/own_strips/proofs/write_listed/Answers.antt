-- Behind the last slot nothing is to come.
use Rattle.std.proofs.Common.{arith}
use Rattle.grid.proofs.Fill.{filled_room, filled_end}
use Rattle.own_strips.proofs.Listed.{listed_none}
use Rattle.own_strips.proofs.Rows.{filled}
use Rattle.own_strips.proofs.write_listed.Goals as goal

pub returns-clause-value : goal.returns-clause-value
returns-clause-value c =
    let none = listed_none c.args.from c.args.book.now c.loop-k.k c.requires.from_bound c.requires.book_len c.loop-k-test.false in
    let all = rw none at (filled c.loop-k.invariant) in
    omega (arith, filled_room all)

pub returns-clause-out_after : goal.returns-clause-out_after
returns-clause-out_after c =
    let none = listed_none c.args.from c.args.book.now c.loop-k.k c.requires.from_bound c.requires.book_len c.loop-k-test.false in
    let all = rw none at (filled c.loop-k.invariant) in
    filled_end all
