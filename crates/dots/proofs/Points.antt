-- Points put one after another.
use Prim.Native.Nat.{ℕ, ◌+◌}
use mathlib.Core.List.{List}
use native.Mathlib.Numerals.{add-one}
use lib.IntN.{ℤ}
use Rattle.text.specs.Pages.{Put}
use Rattle.text.proofs.Puts.{put_then}
use Rattle.dots.specs.Dots.{point_path, point_paths}

module _ (l : ℕ) (zs xs : List ℤ) {before after : List ℕ} {at end : ℕ} where
  pub points_on : (k : ℕ) {next : List ℕ} {to : ℕ} → Put before after at end (point_paths l zs xs k) → Put after next end to (point_path l zs xs k)
      → Put before next at to (point_paths l zs xs (k + 1))
  unfolding point_paths
  points_on k p q = rw add-one (put_then p q)
