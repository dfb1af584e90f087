-- The strokes of a list, as a loop that goes by four takes them.
use mathlib.Core.Path.{◌≡◌}
use mathlib.Core.List.{List, [], ◌∷◌}
use Prim.Native.Nat.{ℕ, suc, ◌+◌, ◌<◌, ◌≤◌}
use native.Mathlib.Numerals.{towards_suc}
use native.Mathlib.Omega.{arith}
use lib.IntN.{ℤ, pos}
use lib.ListN.{length, drop, drop_of_length-le}
use lib.Seq.{drop-cons}
use Rattle.grid.specs.Table.{stroke_at, strokes_of, StrokeOnTable, StrokesOnTable}

pub strokes_more : (s : List ℤ) (p : ℕ) → p + 4 ≤ length s → strokes_of (drop p s) ≡ stroke_at s p ∷ strokes_of (drop (p + 4) s)
unfolding strokes_of
strokes_more s p h =
    let h₀ : p < length s = omega arith in
    let h₁ : suc p < length s = omega arith in
    let h₂ : suc (suc p) < length s = omega arith in
    let h₃ : suc (suc (suc p)) < length s = omega arith in
    simp towards_suc (rw (drop-cons s p (pos 0) h₀, drop-cons s (suc p) (pos 0) h₁, drop-cons s (suc (suc p)) (pos 0) h₂, drop-cons s (suc (suc (suc p))) (pos 0) h₃))

pub strokes_none : (s : List ℤ) (p : ℕ) → length s ≤ p → strokes_of (drop p s) ≡ []
unfolding strokes_of
strokes_none s p h = rw drop_of_length-le

-- each stroke of a list on the table is on the table
pub stroke_of_list : {s : List ℤ} (p : ℕ) → StrokesOnTable s → p + 4 ≤ length s → StrokeOnTable (stroke_at s p)
stroke_of_list p t h = record { x1 = t.on p (omega arith); y1 = t.on (p + 1) (omega arith); x2 = t.on (p + 2) (omega arith); y2 = t.on (p + 3) (omega arith) }
