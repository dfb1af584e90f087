-- The run ends at the first place whose number is on the other side of the least one.
use Rattle.std.proofs.Common.{◌≡◌, sym, ◌∙◌, rules}
use Rattle.limits.proofs.Owned.{least_of, least_inside, least_beyond, run_below, run_above}
use Rattle.limits.proofs.own.end_of_run.Goals as goal
use Rattle.limits.proofs.own.end_of_run.Goals.{then-l, else-l}

pub returns-then-l-outside : goal.returns-then-l-outside
returns-then-l-outside c =
    let least : c.if-l.least ≡ least_of c.args.l.low c.args.l.c =
    elim c.if-l.branch [
      | then-l w ↦ least_inside c.args.l.on_table (sym c.if-l.least-is ∙ w.least-is) w.if-l.true
      | else-l w ↦ least_beyond c.args.l.on_table (sym c.if-l.least-is ∙ w.least-is) w.if-l.false
    ] in
    run_below c.args.l c.args.outline.now c.args.outside c.requires.to_in_bounds least c.first_place.ensures c.if-l-outside.true (λ i f a b t. search rules)

pub returns : goal.returns
returns c =
    let least : c.if-l.least ≡ least_of c.args.l.low c.args.l.c =
    elim c.if-l.branch [
      | then-l w ↦ least_inside c.args.l.on_table (sym c.if-l.least-is ∙ w.least-is) w.if-l.true
      | else-l w ↦ least_beyond c.args.l.on_table (sym c.if-l.least-is ∙ w.least-is) w.if-l.false
    ] in
    run_above c.args.l c.args.outline.now c.args.outside c.requires.to_in_bounds least c.first_place-2.ensures c.if-l-outside.false (λ i f a b t. search rules)
