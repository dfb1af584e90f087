-- No side before the k-th cuts.
use Rattle.std.proofs.Common.{◌≡◌, ℕ, false, List, get_or, ap, subst, arith, below_more}
use Rattle.passes.proofs.Orders.{place_is}
use Rattle.passes.proofs.first_cutting.Goals as goal

pub loop-k-preserved : goal.loop-k-preserved
loop-k-preserved c =
    let k = c.loop-k.k in
    let side = place_is c.args.order c.requires k (omega arith) (ap (λ (xs : List ℕ). get_or xs k 0) c.sides_of-sides.ensures.value) in
    below_more _ _ c.loop-k.invariant (subst (λ (n : ℕ). get_or c.args.cuts.now n false ≡ false) side c.if-cuts-side.false)
