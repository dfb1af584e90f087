-- A view that grows by one point after another.
use mathlib.Core.Path.{◌≡◌, ap, ◌∙◌}
use mathlib.Core.List.{List}
use Prim.Native.Nat.{ℕ, ◌+◌, ◌*◌}
use native.Mathlib.Numerals.{add-one}
use lib.IntN.{ℤ, pos}
use lib.ListN.{get_or}
use Rattle.grid.specs.declared.Window.{Window}
use Rattle.view.specs.Views.{around, reach}

pub reach_on : (w : Window) (xs : List ℤ) (k : ℕ) {r s : Window} → r ≡ reach w xs k
    → s ≡ around r (get_or xs (2 * k) (pos 0)) (get_or xs (2 * k + 1) (pos 0)) → s ≡ reach w xs (k + 1)
unfolding reach
reach_on w xs k e f = rw add-one (f ∙ ap (λ (r : Window). around r (get_or xs (2 * k) (pos 0)) (get_or xs (2 * k + 1) (pos 0))) e)
