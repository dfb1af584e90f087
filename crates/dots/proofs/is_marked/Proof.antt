-- The test of the definition, by the two spreads.
use mir.Syntax.{w32}
use Rattle.whole.proofs.Comparisons.{back}
use borrow.Author.Tests.{eq-eqb, ne_eqb}
use Rattle.dots.specs.Dots.{marked}
use borrow.Author.Rules.{rules}
use Rattle.dots.proofs.is_marked.Statement.{statement}
use Rattle.dots.proofs.is_marked.Tie as tie

mul-spread : tie.Need-overflow_mul-k
mul-spread c = search rules

add-spread : tie.Need-overflow_add-k
add-spread c = search rules

spread-requires : tie.Need-spread-requires
spread-requires c κs = search rules

returns : tie.Need-returns-then-spread-ne0
unfolding marked
returns c = let r = c.before.spread in rw (← r.ensures, ne_eqb r.result 0 c.if-spread-ne0.true)

mul-number-at : tie.Need-overflow_mul-k-2
mul-number-at c = search rules

number-at-requires : tie.Need-number_at-requires
number-at-requires c κs = search rules

apart-requires : tie.Need-apart-index-requires
apart-requires c κs = search rules

mul-spread-2 : tie.Need-overflow_mul-index
mul-spread-2 c = search rules

spread-requires-2 : tie.Need-spread-requires-2
spread-requires-2 c κs = search rules

returns-2 : tie.Need-returns
unfolding marked
returns-2 c =
    let at₂ = c.before.before.before in
    let r = at₂.before.spread in
    let a = c.before.before.number_at in
    let d = simp (back w32 a.result a.type_inv) at c.before.apart-index.ensures.0 in
    rw (← r.ensures, eq-eqb r.result 0 at₂.if-spread-ne0.false, ← a.ensures, ← d) (rw c.spread-2.ensures)

pub is_marked_spec : {M : Type 1} → statement M
is_marked_spec =
    tie.close
    (tie.spec
    mul-spread
    add-spread
    spread-requires
    returns
    mul-number-at
    number-at-requires
    apart-requires
    mul-spread-2
    spread-requires-2
    returns-2)
