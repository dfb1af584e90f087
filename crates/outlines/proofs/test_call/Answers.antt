-- A right length and what `takes` says tell whether something is refused.
use Rattle.std.proofs.Common.{sym, ◌∙◌, arith}
use Rattle.whole.proofs.Comparisons.{ff_tt}
use Rattle.convex.specs.Corners.{most_corners}
use Rattle.convex.proofs.Refusals.{right_three}
use Rattle.outlines.proofs.Refusals.{nothing_refused}
use Rattle.outlines.proofs.test_call.Goals as goal
use Rattle.outlines.proofs.test_call.Goals.{then-right_count+else-takes, else-right_count}

pub reach_of-reach-requires : goal.reach_of-reach-requires
reach_of-reach-requires c = omega (arith, right_three most_corners _ (sym c.right_count.ensures ∙ c.if-right_count.true))

pub refusal-requires : goal.refusal-requires
refusal-requires c e =
    elim c.if-right_count.branch [
      | then-right_count+else-takes w ↦ w.takes.ensures.no w.if-takes.false e
      | else-right_count w ↦ ff_tt (sym w.if-right_count.false ∙ c.right_count.ensures ∙ (nothing_refused _ _ _ e).count)
    ]
