-- The run ends where the search does.
use Rattle.std.proofs.Common.{length, ap, arith, length-drop}
use borrow.Author.Rules.{rules}
use Rattle.text.specs.Runs.{is_not}
use Rattle.text.proofs.Runs.{run_is, run_in, rest_is}
use Rattle.text.proofs.find.Goals as goal

pub returns-in-Some-clause-value : goal.returns-in-Some-clause-value
returns-in-Some-clause-value c =
    run_in (is_not c.args.b) c.args.text.now c.args.from c.in-Some.place c.iter.ensures.rest
    (run_is (is_not c.args.b) c.iter.result.rest.now c.in-Some.place (search rules) (search rules) (search rules))

pub returns-in-None-clause-value : goal.returns-in-None-clause-value
returns-in-None-clause-value c =
    let s = c.iter.result.rest.now in
    let n = length s in
    omega (
      arith,
      length-drop c.args.from c.args.text.now,
      ap length c.iter.ensures.rest,
      ap length (rest_is c.args.text.now c.args.from),
      run_in (is_not c.args.b) c.args.text.now c.args.from n c.iter.ensures.rest
          (run_is (is_not c.args.b) s n (omega arith) (search rules) (λ h. absurd (omega arith))),
    )
