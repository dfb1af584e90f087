-- Four bytes are read where they stand.
use Rattle.std.proofs.Common.{arith}
use Rattle.format.specs.Format.{number_at}
use Rattle.format.proofs.number_at.Goals as goal

pub returns : goal.returns
unfolding number_at
returns c = omega (arith, c.from_be_bytes.ensures)
