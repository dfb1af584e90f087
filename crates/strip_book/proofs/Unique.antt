-- Two results of a call are equal: both refuse by the same refusal, or both are done, and then answer and book are told by the book before.
use mathlib.Core.Path.{sym, ◌∙◌}
use Rattle.grid.proofs.Calls.{lent_unique}
use Rattle.strip_book.specs.Laws.{OneBooking, OneRelease}

pub one_booking : OneBooking
one_booking renter w a b before after after' = lent_unique (λ _ p q. (p.answer ∙ sym q.answer, p.book ∙ sym q.book))

pub one_release : OneRelease
one_release renter z a b before after after' = lent_unique (λ _ p q. (p.answer ∙ sym q.answer, p.book ∙ sym q.book))
