-- A slot that fails its test fails for the whole table; where all pass, those from the place 0 on are all.
use Rattle.std.proofs.Common.{◌*◌, ◌-◌, arith}
use Rattle.slots.proofs.Testing.{starts, fails}
use Rattle.slots.proofs.gather.Goals as goal

pub loop-behind-init : goal.loop-behind-init
loop-behind-init c = starts c.args.book.now c.requires.book_len c.requires.carries

pub returns-in_err-n : goal.returns-in_err-n
returns-in_err-n c =
    rw c.from_residual.ensures
    (fails c.args.book.now c.requires.book_len (280 - 40 * c.loop-behind.behind) (omega arith) c.in_err-n.ensures)
