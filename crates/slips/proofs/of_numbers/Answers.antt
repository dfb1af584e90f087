-- The words so far are without a slip, so that it is the slip of those left.
use Rattle.std.proofs.Common.{◌≡◌, ◌+◌, ◌-◌, ◌<◌, ℕ, sym, ap, ◌∙◌, arith}
use Rattle.slips.specs.Slips.{of_numbers}
use Rattle.slips.proofs.Tests.{none_left, passed, stopped}
use Rattle.slips.proofs.of_numbers.Goals as goal

pub returns-in-Some : goal.returns-in-Some
returns-in-Some c =
    let left : 0 < c.args.count - c.loop.counter = omega arith in
    stopped _ _ c.skip-start.ensures.value c.find-end.ensures.value left c.in-Some.ensures (λ n. absurd (let z : ◌≡◌ {A = ℕ} 0 1 = cc in omega arith))
    ∙ sym c.loop.invariant.1

pub loop-preserved : goal.loop-preserved
loop-preserved c =
    let left : 0 < c.args.count - c.loop.counter = omega arith in
    let less : c.args.count - c.loop.counter - 1 ≡ c.args.count - (c.loop.counter + 1) = omega arith in (
      c.find-end.ensures.upper_bound,
      c.loop.invariant.1 ∙ passed _ _ c.skip-start.ensures.value c.find-end.ensures.value left c.of_number.ensures c.in_default.is
          ∙ ap (of_numbers c.args.line.now c.find-end.result) less,
    )

pub returns : goal.returns
returns c = sym (c.loop.invariant.1 ∙ none_left _ _ (omega arith))
