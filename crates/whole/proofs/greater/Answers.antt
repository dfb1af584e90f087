-- The two numbers as they are read are the arguments.
use mathlib.Core.Path.{◌∙◌}
use mir.Syntax.{w32}
use mir.Facts.{to_z-of_z}
use Rattle.std.specs.Int.{int_max}
use Rattle.whole.proofs.Comparisons.{back}
use Rattle.whole.proofs.Extremes.{max_is}
use Rattle.whole.proofs.greater.Goals as goal

pub returns : goal.returns
returns c =
    back w32 _ c.max.type_inv ∙ c.max.ensures.value ∙ (λ i. int_max (to_z-of_z c.ranges.a i) (to_z-of_z c.ranges.b i)) ∙ max_is c.args.a c.args.b
