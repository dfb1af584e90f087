-- What is understood as a book is a sound one.
use Rattle.storing.proofs.Loading.{understood_sound}
use Rattle.storing.proofs.load.Goals as goal

pub returns : goal.returns
returns c = understood_sound c.in_default.is c.understand.ensures
