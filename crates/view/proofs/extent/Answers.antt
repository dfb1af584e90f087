-- The library's maximum is the longer side of the definition.
use Rattle.std.proofs.Common.{◌≡◌, Bool, true, false, ℕ, max, refl, ap₂, ◌∙◌, arith}
use borrow.Author.Tests.{ltb-true, ltb-false}
use lib.Dec.{ltb}
use Rattle.whole.specs.Choice.{when◌then◌else◌}
use Rattle.view.specs.Views.{width, height, extent}
use Rattle.view.proofs.extent.Goals as goal

longer : (a b : ℕ) → max a b ≡ (when ltb a b then b else a)
longer a b = go (ltb a b) refl
  where
    go : (t : Bool) → ltb a b ≡ t → max a b ≡ (when t then b else a)
    go true e = omega (arith, ltb-true a b e)
    go false e = omega (arith, ltb-false a b e)

pub returns-clause-value : goal.returns-clause-value
unfolding extent
returns-clause-value c = c.max.ensures ∙ ap₂ max c.width.ensures.value c.height.ensures.value ∙ longer (width c.args.r) (height c.args.r)
