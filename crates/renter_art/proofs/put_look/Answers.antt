-- Each arm puts the words that the definition has for its renter.
use borrow.Author.Tests.{eq-eqb, ne_eqb}
use Rattle.renter_art.specs.RenterArt.{look}
use Rattle.renter_art.proofs.put_look.Goals as goal

pub returns-then-renter-eq0-clause-put : goal.returns-then-renter-eq0-clause-put
unfolding look
returns-then-renter-eq0-clause-put c = rw (eq-eqb c.args.renter 0 c.if-renter-eq0.true) c.put.ensures

pub returns-clause-put : goal.returns-clause-put
unfolding look
returns-clause-put c = rw (ne_eqb c.args.renter 0 c.if-renter-eq0.false) c.put-2.ensures
