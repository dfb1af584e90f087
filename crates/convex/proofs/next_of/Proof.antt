-- `convex::next_of` meets its contract: after the last corner comes the first. Assumes nothing.
use mathlib.Core.Path.{sym}
use native.Mathlib.Omega.{arith}
use borrow.Author.Rules.{rules}
use Rattle.rings.specs.Rings.{along, closing}
use Rattle.convex.proofs.Convexity.{edge_next}
use Rattle.convex.proofs.next_of.Statement.{statement}
use Rattle.convex.proofs.next_of.Tie as tie

add-if1 : tie.Need-overflow_add-k
add-if1 c = search rules

returns : tie.Need-returns-then-k-n
returns c = sym (edge_next (closing (omega (arith, c.if-k-n.true))))

add-result : tie.Need-overflow_add-result
add-result c = search rules

returns-2 : tie.Need-returns
returns-2 c = let s = c.before in let l = edge_next {n = s.args.n} {i = s.args.k} (along (omega (arith, c.if-k-n.false, s.requires))) in omega (arith, l)

pub next_of_spec : {M : Type 1} → statement M
next_of_spec = tie.close (tie.spec add-if1 returns add-result returns-2)
