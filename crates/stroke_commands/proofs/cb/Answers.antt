-- The line asks for what was read.
use native.Mathlib.Omega.{arith}
use borrow.Author.Rules.{rules}
use Rattle.arguments.proofs.Numbers.{count_yes, count_no}
use Rattle.replies.specs.Replies.{to_call, to_none}
use Rattle.replies.proofs.Fields.{after}
use Rattle.replies.proofs.Lines.{tells}
use Rattle.stroke_commands.specs.Lines.{with_part, with_sides}
use Rattle.stroke_commands.proofs.Corners.{no_numbers, too_few, other_count, asks_corners}
use Rattle.stroke_commands.proofs.cb.Goals as goal
use Rattle.stroke_commands.proofs.cb.Goals.{then-n-lt5-via-then-n-lt5, then-n-lt5-via-else-n-lt5+then-numbers-n}

pub returns-in_err-n-clause-cb : goal.returns-in_err-n-clause-cb
returns-in_err-n-clause-cb c = rw c.from_residual.ensures (to_none (no_numbers c.args.rest.now c.read_numbers.new.numbers (search rules) c.in_err-n.ensures.numbers))

pub returns-then-n-lt5-clause-cb : goal.returns-then-n-lt5-clause-cb
returns-then-n-lt5-clause-cb c =
    let text = c.args.rest.now in let out = c.read_numbers.new.numbers in let read = c.in_ok-n.ensures.numbers in
    to_none (elim c.then-n-lt5.branch [
      | then-n-lt5-via-then-n-lt5 w ↦ too_few text out _ read (search rules) w.if-n-lt5.true
      | then-n-lt5-via-else-n-lt5+then-numbers-n w ↦ other_count text out _ read (search rules) (count_no _ _ w.if-numbers-n.true)
    ])

pub returns-clause-cb : goal.returns-clause-cb
returns-clause-cb c =
    let a = c.cyrus_beck-a.result in
    let parted = after 5 (λ fs. with_part fs a.kept a.t0 a.t1) c.begin.ensures c.part-reply.ensures in
    to_call _ (asks_corners c.args.rest.now c.read_numbers.new.numbers _ c.in_ok-n.ensures.numbers (search rules) (omega arith)
    (count_yes _ _ (search rules) (omega (arith, c.in_ok-n.ensures.upper_bound)) c.if-numbers-n.false))
    (tells a (rw c.stroke_at-stroke.ensures at c.cyrus_beck-a.ensures)
    (after 2 (λ fs. with_sides fs a.side0 a.side1) parted c.sides.ensures))
