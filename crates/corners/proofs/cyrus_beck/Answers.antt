-- The call is refused by its refusal, or clipped.
use Rattle.std.proofs.Common.{ap, ◌∙◌}
use Rattle.grid.proofs.Tested.{was_fine, was_refused}
use Rattle.corners.specs.Corners.{blank_answer, cyrus_beck_refusal}
use Rattle.corners.proofs.Refusals.{nothing_refused}
use Rattle.corners.proofs.cyrus_beck.Goals as goal

pub returns-in-Err : goal.returns-in-Err
returns-in-Err c =
    let known = was_refused (cyrus_beck_refusal c.args.corners.now c.args.s) c.in-Err.ensures in
    record { refused = λ _. c.refused.ensures ∙ ap blank_answer known.0; done = λ z. absurd (known.1 z) }

pub clipped-requires-clause-corners_on_table : goal.clipped-requires-clause-corners_on_table
clipped-requires-clause-corners_on_table c =
    let zs = c.args.corners.now in (nothing_refused zs c.args.s (was_fine (cyrus_beck_refusal zs c.args.s) c.in-Ok.ensures)).0

pub clipped-requires-clause-stroke_on_table : goal.clipped-requires-clause-stroke_on_table
clipped-requires-clause-stroke_on_table c =
    let zs = c.args.corners.now in (nothing_refused zs c.args.s (was_fine (cyrus_beck_refusal zs c.args.s) c.in-Ok.ensures)).1

pub returns-in-Ok : goal.returns-in-Ok
returns-in-Ok c =
    let z = was_fine (cyrus_beck_refusal c.args.corners.now c.args.s) c.in-Ok.ensures in
    record { refused = λ n. absurd (n z); done = λ _. c.clipped.ensures }
