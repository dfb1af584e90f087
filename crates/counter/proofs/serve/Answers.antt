-- A line that is no order is answered by what it should have been.
use Rattle.std.proofs.Common.{Err}
use Rattle.counter.specs.Serving.{wrong}
use Rattle.counter.proofs.serve.Goals as goal

pub returns-in-Err : goal.returns-in-Err
returns-in-Err c =
    record { order = Err c.in-Err.fault; read = c.in-Err.ensures; done = wrong c.put_wrong.ensures.fits c.put_wrong.ensures.text }
