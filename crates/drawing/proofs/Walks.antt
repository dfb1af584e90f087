-- The walk over the records, one turn at a time: as many steps as there are bytes are enough.
use mathlib.Core.Path.{◌≡◌, refl, ap, ◌∙◌}
use mathlib.Core.List.{List}
use Prim.Native.Nat.{ℕ, zero, suc, ◌+◌, ◌≤◌, ◌<◌}
use native.Mathlib.Nat.{zero-add, add-zero}
use native.Mathlib.Omega.{arith}
use borrow.Author.Tests.{le-leb}
use lib.ListN.{length}
use Rattle.std.specs.Prelude.{Result, Ok, Err}
use Rattle.grid.specs.Refusals.{refuse, bad_drawing}
use Rattle.grid.specs.declared.Refusal.{Refusal}
use Rattle.grid.specs.declared.Window.{Window}
use Rattle.grid.specs.declared.Stroke.{Stroke}
use Rattle.drawing.specs.Intake.{Intake}
use Rattle.format.specs.Format.{record_at}
use Rattle.drawing.specs.Pen.{turn_at, drawn_stroke}
use Rattle.drawing.specs.Drawings.{Drawing, fault, drawn, in_front, onward, walk, surveyed}
use Rattle.drawing.specs.declared.Surveyed.{Surveyed}
use Rattle.drawing.specs.declared.pen.Pen.{Pen}
use Rattle.drawing.specs.declared.pen.Turn.{Turn}
use Rattle.drawing.proofs.Turns.{Leaves, leaves, led}

-- a turn leads forward, so two walks that agree further on agree here
agree : (w : Window) (n at : ℕ) (pen : Pen) (r s : ℕ → Pen → Drawing) → ((next : ℕ) (to : Pen) → at < next → r next to ≡ s next to) → (t : Turn) → Leaves n at pen t
    → onward w pen r t ≡ onward w pen s t
agree w n at pen r s h Turn.End l = refl
agree w n at pen r s h (Turn.Fault place) l = refl
agree w n at pen r s h (Turn.Goes to next) l = h next to l.0
agree w n at pen r s h (Turn.Draws to next) l = ap (in_front (drawn_stroke pen to)) (h next to l.0)

module _ (intake : Intake) (bs : List ℕ) (w : Window) where
  -- past the bytes there is no record
  over : (at : ℕ) (pen : Pen) → length bs ≤ at → turn_at intake bs at pen ≡ Turn.End
  unfolding turn_at record_at
  over at pen h = simp (le-leb _ _ h)

  pub steps_agree : (n m at : ℕ) (pen : Pen) → length bs ≤ at + n → length bs ≤ at + m → walk intake bs w n at pen ≡ walk intake bs w m at pen
  unfolding walk
  steps_agree zero zero at pen h k = refl
  steps_agree zero (suc m) at pen h k = simp (over at pen (omega arith))
  steps_agree (suc n) zero at pen h k = simp (over at pen (omega arith))
  steps_agree (suc n) (suc m) at pen h k =
      agree w (length bs) at pen (walk intake bs w n) (walk intake bs w m) (λ next to l. steps_agree n m next to (omega arith) (omega arith))
      (turn_at intake bs at pen) (leaves intake bs at pen)

  -- what is left of the drawing
  abbrev pub rest : ℕ → Pen → Drawing
  rest at pen = walk intake bs w (length bs) at pen

  pub turned : (at : ℕ) (pen : Pen) {t : Turn} → turn_at intake bs at pen ≡ t → rest at pen ≡ onward w pen rest t
  unfolding walk
  turned at pen e = steps_agree (length bs) (suc (length bs)) at pen (omega arith) (omega arith) ∙ ap (onward w pen rest) e

-- ---- how many strokes there are

-- what is found where n strokes were drawn before
abbrev pub counted : ℕ → Drawing → Result Surveyed Refusal
counted n (fault place) = surveyed (fault place)
counted n (drawn w ss) = Ok (record { window = w; strokes = n + length ss })

pub none_before : (d : Drawing) → counted 0 d ≡ surveyed d
none_before (fault place) = refl
none_before (drawn w ss) = simp (zero-add)

one_before : (n : ℕ) (s : Stroke) (d : Drawing) → counted (n + 1) d ≡ counted n (in_front s d)
one_before n s (fault place) = refl
one_before n s (drawn w ss) = ap (λ (k : ℕ). Ok (record { window = w; strokes = k })) (omega arith)

module _ (intake : Intake) (bs : List ℕ) (w : Window) (at : ℕ) (pen : Pen) where
  pub count_goes : {to : Pen} {next : ℕ} → turn_at intake bs at pen ≡ Turn.Goes to next
      → counted to.strokes (rest intake bs w next to) ≡ counted pen.strokes (rest intake bs w at pen)
  count_goes e = simp (turned intake bs w at pen e, (led intake bs at pen e).2)

  pub count_draws : {to : Pen} {next : ℕ} → turn_at intake bs at pen ≡ Turn.Draws to next
      → counted to.strokes (rest intake bs w next to) ≡ counted pen.strokes (rest intake bs w at pen)
  count_draws {to} {next} e =
      simp (turned intake bs w at pen e, (led intake bs at pen e).2) (one_before pen.strokes (drawn_stroke pen to) (rest intake bs w next to))

  pub count_ends : turn_at intake bs at pen ≡ Turn.End
      → Ok (record { window = w; strokes = pen.strokes }) ≡ counted pen.strokes (rest intake bs w at pen)
  count_ends e = simp (turned intake bs w at pen e, add-zero)

  pub count_fails : {place : ℕ} → turn_at intake bs at pen ≡ Turn.Fault place → Err (refuse bad_drawing 0) ≡ counted pen.strokes (rest intake bs w at pen)
  count_fails e = simp (turned intake bs w at pen e)
