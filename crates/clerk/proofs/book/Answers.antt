-- The intake refuses, or the strip on the grid is booked.
use mir.Facts.{to_z-of_z}
use Rattle.answers.proofs.Answering.{answers_by}
use Rattle.clerk.proofs.Taking.{taken_to_grid, refused_by_intake}
use Rattle.clerk.proofs.book.Goals as goal

pub returns-in-Ok : goal.returns-in-Ok
returns-in-Ok c = answers_by (λ _ _ e. taken_to_grid c.in-Ok.ensures e) (rw (to_z-of_z c.ranges.renter) at c.book_on_grid.ensures)

pub returns-in-Err : goal.returns-in-Err
returns-in-Err c = answers_by (λ _ _ e. refused_by_intake c.in-Err.ensures e) c.refuse.ensures
