-- One number more is looked at in a turn.
use Rattle.std.proofs.Common.{◌∙◌, ◌+◌, ◌||◌, ℤ, pos, ap, sym, get_or, drop, arith, to_z}
use lib.Signed.{lt_z}
use mir.Syntax.{w16}
use Rattle.std.specs.Int.{int_max}
use Rattle.whole.proofs.Comparisons.{back}
use Rattle.whole.proofs.Extremes.{max_is}
use Rattle.racks.specs.Pairs.{above}
use Rattle.racks.proofs.Pairs.{next_above, none_above}
use Rattle.racks.proofs.any_above.Goals as goal

pub loop-number-preserved : goal.loop-number-preserved
loop-number-preserved c =
    let e = c.loop-number.number-index in
    let m = to_z w16 c.loop-number.greatest-bits in
    let value =
    back w16 c.max-greatest.result c.max-greatest.type_inv ∙ c.max-greatest.ensures.value
    ∙ ap (int_max m) (back w16 (get_or c.args.numbers e (pos 0)) (omega arith)) ∙ max_is m _ in
    ap (λ (z : ℤ). lt_z (pos 0) z || above (drop (e + 1) c.args.numbers)) value
    ∙ next_above c.args.numbers e m (omega arith) ∙ c.loop-number.invariant

pub returns : goal.returns
returns c =
    sym (none_above c.args.numbers c.loop-number.number-index (lt_z (pos 0) (to_z w16 c.loop-number.greatest-bits)) (omega arith))
    ∙ c.loop-number.invariant
