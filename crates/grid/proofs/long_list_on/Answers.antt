-- A turn's least is at most the one before and the answer of `short`; its most is at least both. So while both are on the table, the number is.
use Rattle.std.proofs.Common.{sym, ◌∙◌, refl, arith}
use mir.Syntax.{w16}
use Rattle.whole.proofs.Comparisons.{back, le_yes}
use Rattle.whole.proofs.Order.{zarith}
use Rattle.grid.proofs.Ranges.{read_one, first_more, first_none}
use Rattle.grid.proofs.long_list_on.Goals as goal

pub loop-x-preserved : goal.loop-x-preserved
loop-x-preserved c low high =
    let least = c.min-least in
    let most = c.max-most in
    let near = back w16 c.short-nearest.result c.short-nearest.type_inv in
    let l = back w16 least.result least.type_inv in
    let m = back w16 most.result most.type_inv in
    let i = c.loop-x.least-is in
    let j = c.loop-x.most-is in
    let u = least.ensures in
    let v = most.ensures in
    let on = sym (read_one _ c.short-arg-1.given) ∙ c.short-nearest.ensures (record {
      low = omega (zarith, low, near, l, u.other_bound);
      high = omega (zarith, high, near, m, v.other_bound);
    }) in
    first_more _ _ c.loop-x-test.true on (c.loop-x.invariant (omega (zarith, low, l, i, u.self_bound)) (omega (zarith, high, m, j, v.self_bound)))

pub returns-then-least-geminus16383 : goal.returns-then-least-geminus16383
returns-then-least-geminus16383 c e =
    let l = c.loop-x in
    let h = c.loop-x-test.false in
    omega (arith, first_none _ _ h (l.invariant (le_yes refl refl c.if-least-geminus16383.true) (le_yes refl refl e)))
