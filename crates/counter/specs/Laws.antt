-- Laws of what comes of a line, proved in proofs/Unique.antt.
--   OneService       two results of one line on one table are equal: the answer's text, what came of the line, and the table after it
--   UnchangedKeeps   where the table is not said to have changed, it is as it was
use Rattle.std.specs.Prelude.{◌≡◌, List, ℕ, ℤ, take}
use Rattle.counter.specs.Serving.{Serves}
use Rattle.counter.specs.declared.Outcome.{Outcome}
use Rattle.counter.specs.declared.Service.{Service}

abbrev pub OneService : Type 0
OneService = (l : List ℕ) (before after after' : List ℤ) (page page' : List ℕ) (a b : Service)
    → Serves l before after page a → Serves l before after' page' b
    → (take a.end page ≡ take b.end page') × (a.outcome ≡ b.outcome) × (after ≡ after')

abbrev pub UnchangedKeeps : Type 0
UnchangedKeeps = (l : List ℕ) (before after : List ℤ) (page : List ℕ) (r : Service) → Serves l before after page r → (r.outcome ≡ Outcome.Changed → ⊥)
    → after ≡ before
