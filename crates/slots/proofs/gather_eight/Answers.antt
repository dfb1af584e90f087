-- Each slot goes on where the slot behind it has ended; where one is faulty, those from the first on are.
use Rattle.slots.proofs.Good.{bad_behind}
use Rattle.slots.proofs.gather_eight.Goals as goal

pub returns-in_err-from7 : goal.returns-in_err-from7
returns-in_err-from7 c = rw c.from_residual.ensures (bad_behind c.args.book.now c.args.p 7 c.in_err-from7.ensures)

pub returns-in_err-from6 : goal.returns-in_err-from6
returns-in_err-from6 c = rw c.from_residual-in_err-from6.ensures (bad_behind c.args.book.now c.args.p 6 c.in_err-from6.ensures)

pub returns-in_err-from5 : goal.returns-in_err-from5
returns-in_err-from5 c = rw c.from_residual-in_err-from5.ensures (bad_behind c.args.book.now c.args.p 5 c.in_err-from5.ensures)

pub returns-in_err-from4 : goal.returns-in_err-from4
returns-in_err-from4 c = rw c.from_residual-in_err-from4.ensures (bad_behind c.args.book.now c.args.p 4 c.in_err-from4.ensures)

pub returns-in_err-from3 : goal.returns-in_err-from3
returns-in_err-from3 c = rw c.from_residual-in_err-from3.ensures (bad_behind c.args.book.now c.args.p 3 c.in_err-from3.ensures)

pub returns-in_err-from2 : goal.returns-in_err-from2
returns-in_err-from2 c = rw c.from_residual-in_err-from2.ensures (bad_behind c.args.book.now c.args.p 2 c.in_err-from2.ensures)

pub returns-in_err-from1 : goal.returns-in_err-from1
returns-in_err-from1 c = rw c.from_residual-in_err-from1.ensures (bad_behind c.args.book.now c.args.p 1 c.in_err-from1.ensures)
