-- A slot that is not in use is the lowest from there on; past one in use the lowest is one farther.
use Rattle.std.proofs.Common.{arith, sym}
use Rattle.slots.proofs.Lowest.{free_here, free_later, free_none}
use Rattle.slots.proofs.lowest_free.Goals as goal

pub returns-then-not-in_use : goal.returns-then-not-in_use
returns-then-not-in_use c =
    let here = free_here c.args.book.now c.loop-k.k c.args.to c.requires.book_len c.requires.to_bound c.loop-k-test.true (sym c.if-not-in_use.ensures) in
    omega (arith, c.loop-k.invariant, here)

pub loop-k-preserved : goal.loop-k-preserved
loop-k-preserved c =
    let later = free_later c.args.book.now c.loop-k.k c.args.to c.requires.book_len c.requires.to_bound c.loop-k-test.true (sym c.if-not-in_use.ensures) in
    omega (arith, c.loop-k.invariant, later)

pub returns : goal.returns
returns c =
    omega (arith, c.loop-k.invariant, free_none c.args.book.now c.loop-k.k c.args.to c.requires.book_len c.requires.to_bound c.loop-k-test.false)
