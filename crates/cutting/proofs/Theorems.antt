-- What the contract of a cut drawing means to its callers.
--   cut_of_lem         a drawing with a sheet is cut
--   strokes_fit, rows_fit   the numbers that are counted are within the outputs
--   sheet_unique   one sheet only
use mathlib.Core.Path.{◌≡◌, refl, sym, ap, ◌∙◌, subst}
use mathlib.Core.List.{List}
use Prim.Native.Nat.{ℕ, ◌*◌, ◌≤◌}
use native.Mathlib.Omega.{arith}
use lib.IntN.{ℤ}
use lib.ListN.{length, length-take}
use Rattle.grid.specs.Refusals.{refuse, no_area}
use Rattle.grid.specs.declared.Refusal.{Refusal}
use Rattle.std.specs.Prelude.{Result, Ok, Err}
use Rattle.grid.specs.declared.Stroke.{Stroke}
use Rattle.grid.specs.declared.Window.{Window}
use Rattle.drawing.specs.Drawings.{drawn, Means, numbers_of}
use Rattle.drawing.proofs.Strokes.{four_each}
use Rattle.drawing.proofs.Theorems.{means_unique, never_both}
use Rattle.batch.specs.Batches.{RowsOf}
use Rattle.batch.proofs.Rows.{rows_unique}
use Rattle.cutting.specs.Sheets.{CutSheet, CutDrawing, faulty, without_area, cut}
use Rattle.cutting.specs.declared.Sheet.{Sheet}

pub cut_of_lem : {bs : List ℕ} {sheet : Sheet} {strokes rows : List ℤ} → CutDrawing bs (Ok sheet) strokes rows → CutSheet bs sheet strokes rows
cut_of_lem {bs} {sheet} {strokes} {rows} c = go refl c
  where
    go : {r : Result Sheet Refusal} → r ≡ Ok sheet → CutDrawing bs r strokes rows → CutSheet bs sheet strokes rows
    go e (faulty m) = absurd (let z : ◌≡◌ {A = ℕ} 0 1 = cc in omega arith)
    go e (without_area m n) = absurd (let z : ◌≡◌ {A = ℕ} 0 1 = cc in omega arith)
    go e (cut {sheet = k} c) = let same : k ≡ sheet = cc in subst (λ (x : Sheet). CutSheet bs x strokes rows) same c

module _ {bs : List ℕ} {sheet : Sheet} {strokes rows : List ℤ} (c : CutSheet bs sheet strokes rows) where
  pub strokes_fit : sheet.drawn * 4 ≤ length strokes
  strokes_fit = omega (arith, length-take (sheet.drawn * 4) strokes, ap length c.strokes_start, four_each c.lines, c.count)

  pub rows_fit : sheet.kept * 5 ≤ length rows
  rows_fit = omega (arith, length-take (sheet.kept * 5) rows, ap length c.rows_start, c.kept_count)

-- ---- one sheet only

window_of : (bs : List ℕ) {w v : Window} {ss ts : List Stroke} → Means bs (drawn w ss) → Means bs (drawn v ts) → w ≡ v
window_of bs {w} {v} {ss} {ts} p q = let e : drawn w ss ≡ drawn v ts = means_unique bs p q in cc

lines_of : (bs : List ℕ) {w v : Window} {ss ts : List Stroke} → Means bs (drawn w ss) → Means bs (drawn v ts) → ss ≡ ts
lines_of bs {w} {v} {ss} {ts} p q = let e : drawn w ss ≡ drawn v ts = means_unique bs p q in cc

same_cut : {bs : List ℕ} {a b : Sheet} {s t x y : List ℤ} → CutSheet bs a s x → CutSheet bs b t y → a ≡ b
same_cut {bs} {a} {b} c d =
    let w : a.window ≡ b.window = window_of bs c.means d.means in
    let l : c.lines ≡ d.lines = lines_of bs c.means d.means in
    let r : c.kept_rows ≡ d.kept_rows = rows_unique c.are
    (subst (λ (v : Window). RowsOf v (numbers_of c.lines) d.kept_rows) (sym w)
    (subst (λ (ss : List Stroke). RowsOf b.window (numbers_of ss) d.kept_rows) (sym l) d.are)) in
    let k : a.kept ≡ b.kept = omega (arith, c.kept_count, d.kept_count, ap length r) in
    let n : a.drawn ≡ b.drawn = c.count ∙ ap length l ∙ sym d.count in
    λ i. record { window = w i; drawn = n i; kept = k i }

pub sheet_unique : {bs : List ℕ} {a b : Result Sheet Refusal} {s t x y : List ℤ} → CutDrawing bs a s x → CutDrawing bs b t y → a ≡ b
sheet_unique (faulty m) (faulty n) = refl
sheet_unique {bs} (faulty m) (without_area n e) = absurd (never_both bs m n)
sheet_unique {bs} (faulty m) (cut d) = absurd (never_both bs m d.means)
sheet_unique {bs} (without_area m e) (faulty n) = absurd (never_both bs n m)
sheet_unique {bs} (without_area m e) (without_area n f) = ap (λ (w : Window). Err (refuse (no_area w).number (no_area w).place)) (window_of bs m n)
sheet_unique {bs} (without_area m e) (cut d) = absurd (e (ap (λ (w : Window). (no_area w).number) (window_of bs m d.means) ∙ d.area))
sheet_unique {bs} (cut c) (faulty n) = absurd (never_both bs n c.means)
sheet_unique {bs} (cut c) (without_area n f) = absurd (f (ap (λ (w : Window). (no_area w).number) (window_of bs n c.means) ∙ c.area))
sheet_unique (cut c) (cut d) = ap Ok (same_cut c d)
