-- `remains::after` meets its contract: the test is that of its statement. Assumes nothing.
use borrow.Author.Tests.{eq-eqb, ne_eqb}
use Rattle.remains.proofs.after.Statement.{statement}
use Rattle.remains.proofs.after.Tie as tie

returns : tie.Need-returns-then-b-to
returns c = let a = c.before.args in simp (eq-eqb a.b a.to c.if-b-to.true)

returns-2 : tie.Need-returns
returns-2 c = let a = c.before.args in simp (ne_eqb a.b a.to c.if-b-to.false)

pub after_spec : {M : Type 1} → statement M
after_spec = tie.close (tie.spec returns returns-2)
