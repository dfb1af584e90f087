-- The run ends at the first place whose corner lies on the other side of the limit than those before it.
use Rattle.std.proofs.Common.{true, false, rules}
use Rattle.limits.proofs.Limits.{run_by_tests}
use Rattle.limits.proofs.ring.end_of_run.Goals as goal

pub returns-then-l : goal.returns-then-l
returns-then-l c =
    run_by_tests c.args.l true c.args.outside c.requires.small_in c.if-l.true c.first_place.ensures (λ i f a b t. search rules)

pub returns : goal.returns
returns c =
    run_by_tests c.args.l false c.args.outside c.requires.small_in c.if-l.false c.first_place-2.ensures (λ i f a b t. search rules)
