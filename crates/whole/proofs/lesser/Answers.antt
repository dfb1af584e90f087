-- The two numbers as they are read are the arguments.
use mathlib.Core.Path.{◌∙◌}
use mir.Syntax.{w32}
use mir.Facts.{to_z-of_z}
use Rattle.std.specs.Int.{int_min}
use Rattle.whole.proofs.Comparisons.{back}
use Rattle.whole.proofs.Extremes.{min_is}
use Rattle.whole.proofs.lesser.Goals as goal

pub returns : goal.returns
returns c =
    back w32 _ c.min.type_inv ∙ c.min.ensures.value ∙ (λ i. int_min (to_z-of_z c.ranges.a i) (to_z-of_z c.ranges.b i)) ∙ min_is c.args.a c.args.b
