-- The measures and the lesser ones are those of the definition.
use Rattle.std.proofs.Common.{◌≡◌, ◌∙◌, ◌*◌, ◌/◌, ℕ, min, Bool, true, false, refl, ap, arith}
use borrow.Author.Tests.{ltb-true, ltb-false}
use lib.Dec.{ltb}
use Rattle.whole.specs.Choice.{when◌then◌else◌}
use Rattle.grid.specs.declared.Window.{Window}
use Rattle.view.specs.Views.{width, height}
use Rattle.strip_art.specs.StripArt.{lesser, number_size}
use Rattle.strip_art.proofs.number_size.Goals as goal

min_is : (m n : ℕ) → min m n ≡ lesser m n
unfolding lesser
min_is m n = go (ltb n m) refl
  where
    go : (t : Bool) → ltb n m ≡ t → min m n ≡ (when t then n else m)
    go true e = omega (arith, ltb-true n m e)
    go false e = omega (arith, ltb-false n m e)

size_is : (w : Window) {high wide inside size : ℕ} → high ≡ height w → wide ≡ width w → inside ≡ min (8 * high / 5) wide
    → size ≡ min inside 1600 → size ≡ number_size w
unfolding number_size
size_is w {high} {wide} {inside} h v i s =
    s ∙ min_is inside 1600 ∙ ap (λ (n : ℕ). lesser n 1600) (i ∙ min_is (8 * high / 5) wide) ∙ (rw (h, v))

pub returns : goal.returns
returns c = size_is _ c.height-high.ensures.value c.width-wide.ensures.value c.min.ensures c.min-2.ensures
