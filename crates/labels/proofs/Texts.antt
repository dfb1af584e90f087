-- Numbers put one after another.
use Prim.Native.Nat.{ℕ, ◌+◌}
use mathlib.Core.List.{List}
use native.Mathlib.Numerals.{add-one}
use lib.IntN.{ℤ}
use Rattle.grid.specs.declared.Window.{Window}
use Rattle.text.specs.Pages.{Put}
use Rattle.text.proofs.Puts.{put_then}
use Rattle.labels.specs.Labels.{label, label_texts}

module _ (v : Window) (zs : List ℤ) {before after : List ℕ} {at end : ℕ} where
  pub texts_on : (k : ℕ) {next : List ℕ} {to : ℕ} → Put before after at end (label_texts v zs k) → Put after next end to (label v zs k)
      → Put before next at to (label_texts v zs (k + 1))
  unfolding label_texts
  texts_on k p q = rw add-one (put_then p q)
