-- The two distances, by the numbers as they stand in the list.
use mathlib.Core.Path.{◌∙◌}
use Prim.Native.Nat.{◌+◌}
use mir.Syntax.{w32}
use Rattle.whole.proofs.Comparisons.{back}
use Rattle.view.specs.Views.{apart}
use Rattle.dots.specs.Dots.{spread}
use borrow.Author.Rules.{rules}
use Rattle.dots.proofs.spread.Statement.{statement}
use Rattle.dots.proofs.spread.Tie as tie

number-at-requires : tie.Need-number_at-requires
number-at-requires c κs = search rules

add-number-at : tie.Need-overflow_add-i
add-number-at c = search rules

number-at-requires-2 : tie.Need-number_at-requires-2
number-at-requires-2 c κs = search rules

apart-requires : tie.Need-apart-across-requires
apart-requires c κs = search rules

add-number-at-2 : tie.Need-overflow_add-i-2
add-number-at-2 c = search rules

number-at-requires-3 : tie.Need-number_at-requires-3
number-at-requires-3 c κs = search rules

add-number-at-3 : tie.Need-overflow_add-i-3
add-number-at-3 c = search rules

number-at-requires-4 : tie.Need-number_at-requires-4
number-at-requires-4 c κs = search rules

apart-requires-2 : tie.Need-apart-along-requires
apart-requires-2 c κs = search rules

add-result : tie.Need-overflow_add-result
add-result c = search rules

returns : tie.Need-returns
unfolding spread
returns c =
    let a = c.before.before.before.before.before.number_at in
    let b = c.before.before.before.before.number_at-2 in
    let d = c.before.before.number_at-3 in
    let e = c.before.number_at-4 in
    let p = simp (back w32 a.result a.type_inv, back w32 b.result b.type_inv) at c.before.before.before.apart-across.ensures.0 in
    let q = simp (back w32 d.result d.type_inv, back w32 e.result e.type_inv) at c.apart-along.ensures.0 in
    (λ i. p i + q i) ∙ (λ i. apart (a.ensures i) (b.ensures i) + apart (d.ensures i) (e.ensures i))

pub spread_spec : {M : Type 1} → statement M
spread_spec =
    tie.close
    (tie.spec
    number-at-requires
    add-number-at
    number-at-requires-2
    apart-requires
    add-number-at-2
    number-at-requires-3
    add-number-at-3
    number-at-requires-4
    apart-requires-2
    add-result
    returns)
