-- The call is refused by what applies first, or it is done.
use Rattle.outlines.proofs.Refusals.{nothing_refused}
use Rattle.outlines.proofs.clip_outline.Goals as goal

pub clipped-requires-clause-window_on_table : goal.clipped-requires-clause-window_on_table
clipped-requires-clause-window_on_table c = (nothing_refused _ _ _ c.in-Ok.ensures.fine).window

pub clipped-requires-clause-order_bound : goal.clipped-requires-clause-order_bound
clipped-requires-clause-order_bound c = (nothing_refused _ _ _ c.in-Ok.ensures.fine).order

pub clipped-requires-clause-outline_on_table : goal.clipped-requires-clause-outline_on_table
clipped-requires-clause-outline_on_table c =
    let k = nothing_refused _ _ _ c.in-Ok.ensures.fine in
    record { corners = k.corners; convex = k.ring.convex }
