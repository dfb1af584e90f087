-- The distance of the two sides, as they are in the struct.
use borrow.Author.Rules.{rules}
use mir.Syntax.{w32}
use Rattle.whole.proofs.Comparisons.{back}
use Rattle.view.specs.Views.{width}
use Rattle.view.proofs.width.Statement.{statement}
use Rattle.view.proofs.width.Tie as tie

apart-requires : tie.Need-apart-requires
apart-requires c κs = search rules

returns : tie.Need-returns
unfolding width
returns c =
    let w = c.before.before.before.args.r in
    simp (back w32 w.left c.before.before.struct_told-1.given.0.1, back w32 w.right c.before.struct_told-2-1.given.1.1.0.1) at c.apart.ensures

pub width_spec : {M : Type 1} → statement M
width_spec = tie.close (tie.spec apart-requires returns)
