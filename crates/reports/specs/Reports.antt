-- What is reported of a drawing, whatever the report looks like.
--   RefusedText   the texts for all refusals, by number and place
--   CutText       the texts for all drawings that are cut
--   Report refused cut bytes text refusal   text is the report on the drawing whose bytes these are, where `refused n p` is the text of a refusal
--       and `cut w zs n xs k` the text of a drawing that is cut: its strip w, the numbers zs of its n strokes, the batch's rows xs, and how many
--       strokes have one, k. These are the strokes that reports call kept: one that only touches is not among them. The refusal is the one
--       that is told of, if any is. A refusal is reported where the drawing has a fault or its window no area. No other can be: a
--       drawing's numbers are on the table
use Rattle.std.specs.Prelude.{◌≡◌, Option, Some, None, List, ℕ, ◌/◌, ℤ, length}
use Rattle.batch.specs.Batches.{RowsOf}
use Rattle.drawing.specs.Drawings.{fault, drawn, Means, numbers_of}
use Rattle.grid.specs.Refusals.{refuse, bad_drawing, no_area}
use Rattle.grid.specs.declared.Refusal.{Refusal}
use Rattle.grid.specs.declared.Stroke.{Stroke}
use Rattle.grid.specs.declared.Window.{Window}

abbrev pub RefusedText : Type 0
RefusedText = ℕ → ℕ → List ℕ

abbrev pub CutText : Type 0
CutText = Window → List ℤ → ℕ → List ℤ → ℕ → List ℕ

pub data Report (refused : RefusedText) (cut : CutText) (bytes : List ℕ) : List ℕ → Option Refusal → Type 0 where
  faulty : {place : ℕ} → Means bytes (fault place) → Report refused cut bytes (refused bad_drawing 0) (Some (refuse bad_drawing 0))
  without_area : {w : Window} {ss : List Stroke} → Means bytes (drawn w ss) → ((no_area w).number ≡ 0 → ⊥)
      → Report refused cut bytes (refused (no_area w).number (no_area w).place) (Some (refuse (no_area w).number (no_area w).place))
  sound : {w : Window} {ss : List Stroke} {xs : List ℤ} → Means bytes (drawn w ss) → (no_area w).number ≡ 0 → RowsOf w (numbers_of ss) xs
      → Report refused cut bytes (cut w (numbers_of ss) (length ss) xs (length xs / 5)) None
