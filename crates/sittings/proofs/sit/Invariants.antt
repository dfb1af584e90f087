-- The reading stays within its bounds, and the table a sound book.
use Rattle.input.specs.Sources.{InReach}
use Rattle.book_text.specs.Texts.{Sound}
use Rattle.sittings.proofs.sit.Given as goal

abbrev pub invariant-loop : goal.invariant-loop
invariant-loop l = record { in_reach : InReach l.source; sound : Sound l.table }
