-- What comes back is no NaN.
use Rattle.millimetre_commands.proofs.Finite.{a_number}
use Rattle.millimetre_commands.proofs.millimetres.Goals as goal

pub float_to_bits-a : goal.float_to_bits-a
float_to_bits-a c = a_number c.to_millimetres-a.ensures
