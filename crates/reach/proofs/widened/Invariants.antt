-- The rectangle so far is round the corners so far, and on the table where they and the one given are.
use Rattle.grid.specs.Table.{NumbersOnTable}
use Rattle.grid.specs.declared.Window.{Window}
use Rattle.reach.specs.Reach.{Round, ReachOnTable}
use Rattle.reach.proofs.widened.Given as goal

abbrev pub invariant-loop-k : goal.invariant-loop-k
invariant-loop-k l =
    let so_far : Window = record { left = l.left; bottom = l.bottom; right = l.right; top = l.top } in
    record { round : Round l.outline l.k so_far; on_table : NumbersOnTable l.outline → ReachOnTable l.fn.b → ReachOnTable so_far }
