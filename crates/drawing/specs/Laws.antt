-- Laws of drawing files, proved in proofs/Theorems.antt.
--   OneDrawingAnswer   for one file and one output two results of the reading call are equal: the answer, and the
--                      output after it
--   OneMeaning         every byte string means one thing, a fault or a drawing, and nothing else
use Rattle.std.specs.Prelude.{◌≡◌, List, ℕ, ℤ}
use Rattle.whole.specs.Only.{TheOnly}
use Rattle.drawing.specs.Drawings.{Drawing, Means, ReadDrawing}
use Rattle.drawing.specs.declared.DrawingAnswer.{DrawingAnswer}

abbrev pub OneDrawingAnswer : Type 0
OneDrawingAnswer = (bs : List ℕ) (a b : DrawingAnswer) (before after after' : List ℤ)
    → ReadDrawing bs a before after → ReadDrawing bs b before after' → (a ≡ b) × (after ≡ after')

abbrev pub OneMeaning : Type 0
OneMeaning = (bs : List ℕ) → (d : Drawing) × TheOnly (Means bs) d
