-- What is so of every answer of the outline call.
--   ring_answer a       what the answer a says of the ring: all but the counts of the passes
--   OneOutlineAnswer   two answers to one input are equal, and so are the outputs: every field, refusals too
--   AnyOrder           in any two of the 24 orders the ring is the same, corner for corner
--   Denominators       no denominator that the call wrote passes 32,766
use Rattle.std.specs.Prelude.{◌≡◌, List, ℕ, ◌≤◌, ℤ, take}
use Rattle.grid.specs.declared.Answer.{Answer}
use Rattle.grid.specs.declared.Window.{Window}
use Rattle.outlines.specs.Outlines.{last_order, SmallDenominators, Outline}
use Rattle.outlines.specs.declared.OutlineAnswer.{OutlineAnswer}

abbrev pub ring_answer : OutlineAnswer → Answer
ring_answer a = record { number = a.number; place = a.place; count = a.count }

abbrev pub OneOutlineAnswer : Type 0
OneOutlineAnswer =
    (w : Window) (o : ℕ) (zs : List ℤ) (a b : OutlineAnswer) (before after after' : List ℤ)
    → Outline w o zs a before after → Outline w o zs b before after' → (a ≡ b) × (after ≡ after')

abbrev pub AnyOrder : Type 0
AnyOrder =
    (w : Window) (o o' : ℕ) (zs : List ℤ) (a a' : OutlineAnswer) (before after after' : List ℤ) → o ≤ last_order → o' ≤ last_order
    → Outline w o zs a before after → Outline w o' zs a' before after' → (ring_answer a ≡ ring_answer a') × (after ≡ after')

abbrev pub Denominators : Type 0
Denominators =
    (w : Window) (o : ℕ) (zs : List ℤ) (a : OutlineAnswer) (before after : List ℤ)
    → Outline w o zs a before after → SmallDenominators (take a.count after)
