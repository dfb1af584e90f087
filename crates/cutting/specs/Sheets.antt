-- A drawing that is read and cut to its strip.
--   CutSheet bytes sheet strokes rows   the bytes mean a drawing whose window has area: the sheet has the window, how many strokes are drawn and how
--                       many of them have a row; the list strokes starts with the numbers of its strokes, and the list rows with the batch's rows
--   CutDrawing bytes sheet strokes rows   what `cutting::cut_drawing` promises on these bytes: its answer, and the two outputs after it.
--                       A drawing's numbers are on the table, so a fault (11) and a window without area (3) are all that is refused. What else is
--                       in the two outputs is left open
use Rattle.std.specs.Prelude.{◌≡◌, Result, Ok, Err, List, ℕ, ◌*◌, ℤ, length, take}
use Rattle.batch.specs.Batches.{RowsOf}
use Rattle.drawing.specs.Drawings.{fault, drawn, Means, numbers_of}
use Rattle.grid.specs.Refusals.{refuse, bad_drawing, no_area}
use Rattle.grid.specs.declared.Refusal.{Refusal}
use Rattle.grid.specs.declared.Stroke.{Stroke}
use Rattle.grid.specs.declared.Window.{Window}
use Rattle.cutting.specs.declared.Sheet.{Sheet}

pub record CutSheet (bytes : List ℕ) (sheet : Sheet) (strokes rows : List ℤ) : Type 0 where
  pub lines : List Stroke
  pub means : Means bytes (drawn sheet.window lines)
  pub area : (no_area sheet.window).number ≡ 0
  pub kept_rows : List ℤ
  pub are : RowsOf sheet.window (numbers_of lines) kept_rows
  pub count : sheet.drawn ≡ length lines
  pub kept_count : sheet.kept * 5 ≡ length kept_rows
  pub strokes_start : take (sheet.drawn * 4) strokes ≡ numbers_of lines
  pub rows_start : take (sheet.kept * 5) rows ≡ kept_rows

pub data CutDrawing (bytes : List ℕ) : Result Sheet Refusal → List ℤ → List ℤ → Type 0 where
  faulty : {strokes rows : List ℤ} {place : ℕ} → Means bytes (fault place) → CutDrawing bytes (Err (refuse bad_drawing 0)) strokes rows
  without_area : {strokes rows : List ℤ} {w : Window} {ss : List Stroke} → Means bytes (drawn w ss) → ((no_area w).number ≡ 0 → ⊥)
      → CutDrawing bytes (Err (refuse (no_area w).number (no_area w).place)) strokes rows
  cut : {sheet : Sheet} {strokes rows : List ℤ} → CutSheet bytes sheet strokes rows → CutDrawing bytes (Ok sheet) strokes rows
