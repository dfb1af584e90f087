-- Strokes put one after another, and the room that they need.
use Prim.Native.Nat.{ℕ, ◌+◌, ◌*◌, ◌-◌}
use mathlib.Core.List.{List}
use native.Mathlib.Numerals.{add-one}
use lib.IntN.{ℤ}
use Rattle.text.specs.Pages.{Put}
use Rattle.text.proofs.Puts.{put_then}
use Rattle.paths.specs.Paths.{stroke_path, stroke_paths}

module _ (step : ℕ) (xs : List ℤ) {before after : List ℕ} {at end : ℕ} where
  pub strokes_on : (k : ℕ) {next : List ℕ} {to : ℕ} → Put before after at end (stroke_paths step xs k)
      → Put after next end to (stroke_path xs (k * step + (step - 4))) → Put before next at to (stroke_paths step xs (k + 1))
  unfolding stroke_paths
  strokes_on k p q = rw add-one (put_then p q)
