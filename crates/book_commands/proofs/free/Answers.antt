-- The reply says the answer.
use mir.Facts.{to_z-of_z}
use Rattle.replies.proofs.Lines.{tells}
use Rattle.book_commands.proofs.free.Goals as goal

pub returns-clause-tells : goal.returns-clause-tells
returns-clause-tells c =
    let fits = c.ranges in
    tells c.release_slot-a.result (rw (to_z-of_z fits.renter, to_z-of_z fits.slot) at c.release_slot-a.ensures) c.begin.ensures
