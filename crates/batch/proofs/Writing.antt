-- The loop that writes the rows: n numbers of them stand in the output, and those of the strokes from k on are to come.
use mathlib.Core.Path.{◌≡◌, sym, ap, ◌∙◌, subst}
use mathlib.Core.Bool.{Bool}
use mathlib.Core.List.{List, ◌∷◌, ◌++◌}
use Rattle.std.specs.Prelude.{Some, None}
use Prim.Native.Nat.{ℕ, ◌+◌, ◌*◌, ◌/◌, ◌≤◌}
use native.Mathlib.Omega.{arith}
use lib.IntN.{ℤ, pos}
use lib.ListN.{length, length-append}
use lib.Seq.{sets}
use Rattle.grid.specs.declared.Stroke.{Stroke}
use Rattle.grid.specs.declared.Window.{Window}
use Rattle.grid.specs.Table.{ends, stroke_at, StrokeOnTable, WindowOnTable, StrokesOnTable}
use Rattle.grid.proofs.Fill.{Filled, filled_start, filled_room, filled_put, filled_end}
use Rattle.grid.proofs.StrokeLists.{stroke_of_list}
use Rattle.strokes.specs.declared.StrokeAnswer.{StrokeAnswer}
use Rattle.strokes.proofs.Computed.{clipped_of, clipped_of_is}
use Rattle.strokes.proofs.Unique.{clipped_unique}
use Rattle.cuts.specs.Cuts.{CutIs}
use Rattle.batch.specs.Batches.{row, RowsGiven, RoomForRow, WroteRow, WroteRows}
use Rattle.batch.proofs.Rows.{row_cut, rows_from, rows_more, rows_none, clipped, computed_rows}

-- a stroke that is left is on the table
pub stroke_left : {zs : List ℤ} {s : Stroke} (p : ℕ) → StrokesOnTable zs → p + 4 ≤ length zs → s ≡ stroke_at zs p → StrokeOnTable s
stroke_left p t h e = subst StrokeOnTable (sym e) (stroke_of_list p t h)

-- ---- one row, by what is given of its stroke
module _ (touches : Bool) {w : Window} {s : Stroke} (k n : ℕ) (out : List ℤ) where
  pub row_room : {part : Stroke} → CutIs touches w s (Some part) → WindowOnTable w → StrokeOnTable s → RoomForRow touches w s k n out
      → n + 5 ≤ length out
  row_room cut on t room = let a = clipped_of_is on t in omega (arith, room _ a, ap length (row_cut touches k cut a))

  pub row_put : {part : Stroke} → CutIs touches w s (Some part) → {after : List ℤ} → after ≡ sets out n (pos k ∷ ends part)
      → WroteRow touches w s k n (n + 5) out after
  row_put cut f a clip = let is = row_cut touches k cut clip in (ap (λ (xs : List ℤ). n + length xs) (sym is), f ∙ ap (sets out n) (sym is))

  pub row_left_out : CutIs touches w s None → WroteRow touches w s k n n out out
  row_left_out cut a clip = let is = row_cut touches k cut clip in (omega (arith, ap length is), ap (sets out n) (sym is))

-- ---- all of them
pub record Writing (touches : Bool) (w : Window) (zs out₀ out : List ℤ) (n k : ℕ) : Type 0 where
  pub most : k * 4 ≤ length zs
  pub room : length (rows_from touches w zs 0) ≤ length out₀
  pub filled : Filled (rows_from touches w zs 0) (rows_from touches w zs (k * 4)) out out₀ n

module _ {touches : Bool} {w : Window} {zs out₀ : List ℤ} (on : WindowOnTable w) (t : StrokesOnTable zs) where
  pub writing_start : ((xs : List ℤ) → RowsGiven touches w zs xs → length xs ≤ length out₀) → Writing touches w zs out₀ out₀ 0 0
  writing_start enough = record { most = omega arith; room = enough _ (computed_rows touches on t); filled = filled_start _ _ }

  pub writing_end : {out : List ℤ} {n k : ℕ} → Writing touches w zs out₀ out n k → length zs / 4 ≤ k → WroteRows touches w zs n out₀ out
  writing_end {out} {n} {k} i h =
      let past : length zs ≤ k * 4 = omega (arith, t.by_four) in
      let f = subst (λ (xs : List ℤ). Filled (rows_from touches w zs 0) xs out out₀ n) (rows_none touches w zs (k * 4) past) i.filled in
      record { numbers = _; gives = computed_rows touches on t; count = omega (arith, filled_room f); output = filled_end f }

  -- the stroke k, whose row is next
  module _ {s : Stroke} {out : List ℤ} {n k : ℕ} (i : Writing touches w zs out₀ out n k) (h : k * 4 + 4 ≤ length zs) (e : s ≡ stroke_at zs (k * 4)) where
    abbrev answer : StrokeAnswer
    answer = clipped_of w (stroke_at zs (k * 4))

    due : Filled (rows_from touches w zs 0) (row touches k answer ++ rows_from touches w zs ((k + 1) * 4)) out out₀ n
    due =
        let here : k * 4 / 4 ≡ k = omega arith in
        let on_by : k * 4 + 4 ≡ (k + 1) * 4 = omega arith in
        subst (λ (xs : List ℤ). Filled (rows_from touches w zs 0) xs out out₀ n)
        (rows_more touches w zs (k * 4) h ∙ (λ j. row touches (here j) answer ++ rows_from touches w zs (on_by j))) i.filled

    pub next_room : RoomForRow touches w s k n out
    next_room a clip =
        omega (
          arith,
          i.room,
          due.same,
          filled_room due,
          length-append (row touches k answer) (rows_from touches w zs ((k + 1) * 4)),
          ap (λ (b : StrokeAnswer). length (row touches k b)) (clipped_unique clip (clipped touches (k * 4) on t h e)),
        )

    pub next_row : {n' : ℕ} {out' : List ℤ} → WroteRow touches w s k n n' out out' → Writing touches w zs out₀ out' n' (k + 1)
    next_row wrote =
        let o = wrote answer (clipped touches (k * 4) on t h e) in
        record { most = omega (arith, h); room = i.room; filled = rw (o.0, o.1) (filled_put (row touches k answer) due i.room) }
