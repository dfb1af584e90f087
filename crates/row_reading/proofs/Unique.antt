-- A line tells its six numbers, and they tell the slot and the strip.
use mathlib.Core.Path.{◌≡◌, refl, sym, ap, ◌∙◌}
use mathlib.Core.List.{List, [], ◌∷◌, ◌++◌}
use Rattle.std.specs.Prelude.{Some}
use Prim.Native.Nat.{ℕ, ◌+◌, ◌-◌, ◌≤◌, ◌<◌}
use native.Mathlib.Omega.{arith}
use lib.IntN.{ℤ}
use lib.ListN.{length, drop, length-append, length-take, length-drop}
use Rattle.grid.specs.declared.Window.{Window}
use Rattle.text.specs.Pages.{integer, ascii}
use Rattle.text.specs.Runs.{run, is_not}
use Rattle.text.proofs.Runs.{run_le}
use Rattle.strip_lines.specs.Lines.{listed, row_text}
use Rattle.row_reading.specs.Laws.{OneRow}
use Rattle.row_reading.specs.Rows.{StandsAt}
use Rattle.row_reading.specs.Workers.{row_numbers}
use Rattle.row_reading.proofs.Six.{six_are, row_parts, tail}
use Rattle.row_reading.proofs.Finding.{small_row, told_slot, told_strip}

-- ---- how long a line is

listed_long : (zs : List ℤ) → length zs ≤ length (listed zs)
unfolding listed
listed_long [] = omega arith
listed_long (z ∷ zs) =
    omega (arith, length-append (integer z ++ ascii " ") (listed zs), length-append (integer z) (ascii " "), listed_long zs)

pub row_long : (k : ℕ) (w : Window) → 6 < length (row_text k w)
row_long k w =
    omega (arith, ap length (row_parts k w), length-append (listed (row_numbers k w)) (61 ∷ tail w), listed_long (row_numbers k w))

-- what stands in a text ends there
pub stands_within : (t word : List ℕ) (i : ℕ) → StandsAt t i word → length word ≤ length t - i
stands_within t word i s = omega (arith, sym (length-take (length word) (drop i t)) ∙ ap length s, length-drop i t)

-- ---- one line, one strip

pub one_row : OneRow
one_row t i j k v w h a b =
    let end = i + run (is_not 61) (drop i t) in
    let long = row_long j v in
    let inside = stands_within t (row_text j v) i a.line in
    let most : end ≤ length t = omega (arith, run_le (is_not 61) (drop i t), length-drop i t) in
    let this = six_are t i end j v h a.line refl (small_row j v a.slot a.good) most in
    let that = six_are t i end k w h b.line refl (small_row k w b.slot b.good) most in
    let both : Some (row_numbers j v) ≡ Some (row_numbers k w) = sym this ∙ that in
    let same : row_numbers j v ≡ row_numbers k w = cc in
    let ns = row_numbers j v in
    (sym (told_slot ns j v refl) ∙ told_slot ns k w same, sym (told_strip ns j v refl) ∙ told_strip ns k w same)
