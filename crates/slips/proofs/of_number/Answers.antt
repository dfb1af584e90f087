-- What follows the minus decides.
use Rattle.slips.proofs.Tests.{without_minus}
use Rattle.slips.proofs.of_number.Goals as goal

pub returns : goal.returns
returns c = without_minus _ c.skip-from.ensures.value c.of_plain.ensures
