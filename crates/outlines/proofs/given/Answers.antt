-- Where the room is too little it is refused, else the numbers are given.
use Rattle.std.proofs.Common.{sym, ap, ◌∙◌}
use borrow.Author.Tests.{eq-eqb, ne_eqb}
use Rattle.grid.specs.Calls.{answered_by}
use Rattle.grid.specs.Refusals.{room_refusal}
use Rattle.grid.proofs.Tested.{was_fine, was_refused}
use Rattle.outlines.specs.Outlines.{refused_outline}
use Rattle.outlines.proofs.given.Goals as goal

pub returns-in-Err : goal.returns-in-Err
unfolding answered_by
returns-in-Err c xs e =
    let r = was_refused (room_refusal c.args.need c.args.room) c.in-Err.ensures in
    c.from.ensures ∙ ap refused_outline r.0 ∙ sym (simp (← e, ne_eqb _ _ r.1))

pub returns-in-Ok : goal.returns-in-Ok
unfolding answered_by
returns-in-Ok c xs e =
    let z = was_fine (room_refusal c.args.need c.args.room) c.in-Ok.ensures in
    simp (← e, eq-eqb _ _ z)
