-- What the contract of the drawing file means; no function's proof needs this file.
--   means, means_unique, one_meaning   every byte string has a meaning, and one only
--   never_both               so no byte string is both a fault and a drawing
--   read, one_drawing_answer   every call has a result, and one only: answer and output
--   enough                   a walk of more steps than there are bytes means the same
--   few_strokes, on_table_lem    a drawing has no more than 4,096 strokes, and its numbers are on the table
use mathlib.Core.Path.{◌≡◌, refl, sym, ◌∙◌, subst}
use mathlib.Core.List.{List}
use Prim.Native.Nat.{ℕ, ◌≤◌}
use native.Mathlib.Omega.{arith}
use lib.IntN.{ℤ}
use lib.ListN.{length}
use Rattle.grid.specs.Refusals.{no_area, most_strokes, window_refusal, strokes_refusal}
use Rattle.grid.specs.declared.Stroke.{Stroke}
use Rattle.grid.specs.declared.Window.{Window}
use Rattle.drawing.specs.Intake.{Intake}
use Rattle.drawing.specs.Drawings.{Drawing, fault, drawn, walk, meaning, Means, numbers_of, ReadsAs, ReadDrawing}
use Rattle.drawing.specs.Laws.{OneDrawingAnswer, OneMeaning}
use Rattle.drawing.specs.declared.pen.Pen.{Pen}
use Rattle.drawing.proofs.Computed.{computed, is_computed, by_computed}
use Rattle.drawing.proofs.Walks.{steps_agree}
use Rattle.drawing.proofs.Strokes.{kept}
use Rattle.drawing.proofs.OnTable.{area_only, strokes_taken}
use Rattle.drawing.proofs.Readings.{read_answer, read_output, reads, reads_unique, to_reading}

module _ (bs : List ℕ) where
  -- ---- one meaning

  pub means : Means bs (meaning computed bs)
  means = by_computed refl

  pub means_unique : {d e : Drawing} → Means bs d → Means bs e → d ≡ e
  means_unique p q = is_computed p ∙ sym (is_computed q)

  pub never_both : {place : ℕ} {w : Window} {ss : List Stroke} → Means bs (fault place) → Means bs (drawn w ss) → ⊥
  never_both {place} {w} {ss} p q = let e : fault place ≡ drawn w ss = means_unique p q in let z : ◌≡◌ {A = ℕ} 0 1 = cc in omega arith

  pub few_strokes : {w : Window} {ss : List Stroke} → Means bs (drawn w ss) → length ss ≤ most_strokes
  few_strokes {w} {ss} p = (kept computed bs w ss (sym (is_computed p))).1

  -- of the window only its area may be refused, and of the strokes nothing
  pub on_table_lem : {w : Window} {ss : List Stroke} → Means bs (drawn w ss) → (window_refusal w ≡ no_area w) × ((strokes_refusal (numbers_of ss)).number ≡ 0)
  on_table_lem {w} {ss} p = let e = sym (is_computed p) in (area_only bs w ss e, strokes_taken bs w ss e)

  -- the number of steps is no limit
  pub enough : (intake : Intake) (w : Window) (n at : ℕ) (pen : Pen) → length bs ≤ n → walk intake bs w n at pen ≡ walk intake bs w (length bs) at pen
  enough intake w n at pen h = steps_agree intake bs w n (length bs) at pen (omega arith) (omega arith)

  -- ---- a result

  pub read : (out : List ℤ) → ReadDrawing bs (read_answer (meaning computed bs) (length out)) out (read_output (meaning computed bs) out)
  read out = to_reading bs refl refl (reads (meaning computed bs) out)

-- ---- the laws
pub one_drawing_answer : OneDrawingAnswer
one_drawing_answer bs a b before after after' p q =
    reads_unique p.drawing p.call
    (subst (λ (d : Drawing). ReadsAs d b before after') (means_unique bs q.means p.means) q.call)

pub one_meaning : OneMeaning
one_meaning bs = (meaning computed bs, record { holds = means bs; only = λ d p. is_computed p })
