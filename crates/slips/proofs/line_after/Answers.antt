-- The lines so far are passed, so that it is the line after those left.
use Rattle.std.proofs.Common.{◌≡◌, ◌+◌, ◌-◌, ◌<◌, ℕ, ap, ◌∙◌, drop, arith}
use Rattle.slips.specs.Texts.{line_after}
use Rattle.slips.proofs.Lines.{passed, too_few, found}
use Rattle.slips.proofs.line_after.Goals as goal

pub returns-then-end-text : goal.returns-then-end-text
returns-then-end-text c =
    let left : 0 < c.args.before - c.loop.counter = omega arith in
    too_few _ _ c.find-end.ensures.value c.loop.invariant.1 left c.if-end-text.true

pub loop-preserved : goal.loop-preserved
loop-preserved c =
    let left : 0 < c.args.before - c.loop.counter = omega arith in
    let less : c.args.before - c.loop.counter - 1 ≡ c.args.before - (c.loop.counter + 1) = omega arith in (
      omega (arith, c.find-end.ensures.upper_bound),
      passed _ _ c.find-end.ensures.value c.loop.invariant.1 left ∙ ap (λ (n : ℕ). line_after n (drop (c.find-end.result + 1) c.args.text.now)) less,
    )

pub returns : goal.returns
returns c = found _ _ c.find-end-2.ensures.value c.loop.invariant.1 (omega arith)
