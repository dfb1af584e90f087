-- A turn leads on to the end of its record and adds to the strokes what it draws: by the tests of the definitions.
use mathlib.Core.Path.{◌≡◌, refl, subst}
use mathlib.Core.List.{List}
use Prim.Native.Nat.{ℕ, ◌+◌, ◌≤◌, ◌<◌}
use borrow.Author.Tests.{ltb-true}
use lib.Dec.{eqb, ltb}
use lib.ListN.{length}
use Rattle.whole.proofs.Comparisons.{by-test}
use Rattle.grid.specs.Refusals.{most_strokes}
use Rattle.drawing.specs.Intake.{Intake}
use Rattle.format.specs.Format.{record_at}
use Rattle.format.proofs.Records.{EndsWithin, record_ends}
use Rattle.drawing.specs.Pen.{same, after, turn, turn_at}
use Rattle.format.specs.declared.Step.{Step}
use Rattle.format.specs.declared.Found.{Found}
use Rattle.drawing.specs.declared.pen.Pen.{Pen}
use Rattle.drawing.specs.declared.pen.Turn.{Turn}

abbrev pub Leaves : ℕ → ℕ → Pen → Turn → Type 0
Leaves n at pen Turn.End = Unit
Leaves n at pen (Turn.Fault place) = Unit
Leaves n at pen (Turn.Goes to next) = (at < next) × (next ≤ n) × (to.strokes ≡ pen.strokes)
Leaves n at pen (Turn.Draws to next) = (at < next) × (next ≤ n) × (to.strokes ≡ pen.strokes + 1) × (pen.strokes < most_strokes)

module _ (intake : Intake) (n at : ℕ) (pen : Pen) where
  step_leaves : (next : ℕ) (s : Step) → (at < next) × (next ≤ n) → Leaves n at pen (after intake at next pen s)
  unfolding after
  step_leaves next (Step.Move x y) e = by-test (eqb (intake.point (record { x = x; y = y })).number 0) (Leaves n at pen) (λ _. (e.0, e.1, refl)) (λ _. tt)
  step_leaves next (Step.Line x y) e =
      by-test pen.moved (Leaves n at pen)
      (λ _. by-test (ltb pen.strokes most_strokes) (Leaves n at pen)
      (λ l. by-test (eqb (intake.point (record { x = x; y = y })).number 0) (Leaves n at pen) (λ _. (e.0, e.1, refl, ltb-true pen.strokes most_strokes l))
      (λ _. tt))
      (λ _. tt))
      (λ _. tt)
  step_leaves next Step.Close e =
      by-test pen.moved (Leaves n at pen)
      (λ _. by-test (same pen.here pen.start) (Leaves n at pen) (λ _. (e.0, e.1, refl))
      (λ _. by-test (ltb pen.strokes most_strokes) (Leaves n at pen) (λ l. (e.0, e.1, refl, ltb-true pen.strokes most_strokes l)) (λ _. tt)))
      (λ _. tt)

  found_leaves : (f : Found) → EndsWithin n at f → Leaves n at pen (turn intake at pen f)
  found_leaves (Found.Record s next) e = step_leaves next s e
  found_leaves Found.Bad e = tt
  found_leaves Found.End e = tt

pub leaves : (intake : Intake) (bs : List ℕ) (at : ℕ) (pen : Pen) → Leaves (length bs) at pen (turn_at intake bs at pen)
unfolding turn_at
leaves intake bs at pen = found_leaves intake (length bs) at pen (record_at bs at) (record_ends bs at)

pub led : (intake : Intake) (bs : List ℕ) (at : ℕ) (pen : Pen) {t : Turn} → turn_at intake bs at pen ≡ t → Leaves (length bs) at pen t
led intake bs at pen e = subst (Leaves (length bs) at pen) e (leaves intake bs at pen)
