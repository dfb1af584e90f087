-- The lesser and the greater are those of the numbers given.
use Rattle.std.proofs.Common.{◌≡◌, ◌-ℤ◌, sym, ◌∙◌, subst, SFits, ℤ}
use mir.Syntax.{w16}
use mir.Facts.{to_z-of_z}
use Rattle.racks.proofs.Common.{min_read, max_read}
use Rattle.racks.proofs.overlap.Goals as goal

apart : {l g m n : ℤ} → l ≡ m → g ≡ n → l -ℤ g ≡ m -ℤ n
apart e f = λ i. e i -ℤ f i

pub overflow_sub-result : goal.overflow_sub-result
overflow_sub-result c =
    let l = min_read _ _ c.ranges.b.sfits c.ranges.y.sfits c.min.result c.min.type_inv c.min.ensures.value in
    let g = max_read _ _ c.ranges.a.sfits c.ranges.x.sfits c.max.result c.max.type_inv c.max.ensures.value in
    subst (SFits w16) (sym (apart l g)) c.requires

pub returns : goal.returns
returns c =
    let l = min_read _ _ c.ranges.b.sfits c.ranges.y.sfits c.min.result c.min.type_inv c.min.ensures.value in
    let g = max_read _ _ c.ranges.a.sfits c.ranges.x.sfits c.max.result c.max.type_inv c.max.ensures.value in
    to_z-of_z (subst (SFits w16) (sym (apart l g)) c.requires) ∙ apart l g
