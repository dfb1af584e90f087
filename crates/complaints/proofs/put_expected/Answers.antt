-- `complaints::put_expected` meets its contract: each arm puts the words that the definition has for its count.
use Rattle.std.proofs.Common.{◌≢◌, arith}
use borrow.Author.Tests.{ne_eqb}
use Rattle.complaints.specs.Complaints.{expectation}
use Rattle.complaints.proofs.put_expected.Goals as goal

pub returns-in-0-clause-put : goal.returns-in-0-clause-put
unfolding expectation
returns-in-0-clause-put c = rw c.in-0.is c.put.ensures

pub returns-in-2-clause-put : goal.returns-in-2-clause-put
unfolding expectation
returns-in-2-clause-put c = rw c.in-2.is c.put-in-2.ensures

pub returns-in_default-clause-put : goal.returns-in_default-clause-put
unfolding expectation
returns-in_default-clause-put c =
    let zero : c.args.count ≢ 0 = omega arith in
    let two : c.args.count ≢ 2 = omega arith in
    rw (ne_eqb c.args.count 0 zero, ne_eqb c.args.count 2 two) c.put-in_default.ensures
