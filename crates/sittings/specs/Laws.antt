-- A law of what comes of a line, proved in proofs/Orders.antt.
--   ServesSound   a sound book is sound after any line: so its text is always read back as that book
use Rattle.std.specs.Prelude.{List, ℕ, ℤ}
use Rattle.book_text.specs.Texts.{Sound}
use Rattle.counter.specs.Serving.{Serves}
use Rattle.counter.specs.declared.Service.{Service}

abbrev pub ServesSound : Type 0
ServesSound = (l : List ℕ) (before after : List ℤ) (page : List ℕ) (r : Service) → Serves l before after page r → Sound before → Sound after
