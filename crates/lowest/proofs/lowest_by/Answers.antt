-- Forward or back from the first corner, whichever goes down, the walk ends at the lowest.
use Rattle.lowest.proofs.Downhill.{moved}
use Rattle.lowest.proofs.lowest_by.Goals as goal

pub returns : goal.returns
returns g c = λ r t. moved c.if-i-eq0.false (c.down_forward-i.ensures r t)
