-- The sides before the first one that cuts leave the outline as it is, and the first pass leaves what the others go on from.
use Rattle.std.proofs.Common.{ℕ, List, get_or, sym, ap, subst, arith, rules}
use Rattle.limits.specs.Sides.{window_of}
use Rattle.limits.proofs.Sides.{number_at}
use Rattle.passes.specs.Passes.{Ran, without_area}
use Rattle.passes.proofs.Orders.{side_is}
use Rattle.passes.proofs.Running.{first_gone, first_more}
use Rattle.passes.proofs.run.Goals as goal

pub overflow_sub-left : goal.overflow_sub-left
overflow_sub-left c =
    let w = window_of c.args.numbers.now in
    (c.pass-p.ensures w (c.limit_of.ensures w (search (rules, number_at)))).order

pub overflow_cast-counts-2 : goal.overflow_cast-counts-2
overflow_cast-counts-2 c =
    let w = window_of c.args.numbers.now in
    let p = c.pass-p.ensures w (c.limit_of.ensures w (search (rules, number_at))) in
    omega (arith, p.end, c.requires.outline_on_table.corners.few)

pub returns-then-left-lt3 : goal.returns-then-left-lt3
returns-then-left-lt3 c =
    let a = c.args in
    let w = window_of a.numbers.now in
    let r = c.requires in
    let first = c.first_cutting-k in
    let side = side_is a.order r.order_bound first.result (omega (arith, first.ensures.place)) (ap (λ (xs : List ℕ). get_or xs first.result 0) c.sides_of.ensures.value) in
    let p = c.pass-p.ensures w (c.limit_of.ensures w (search (rules, number_at))) in
    subst (Ran w a.order a.outline.now c.pass-p.new.m) (sym c.nothing.ensures)
    (without_area (first_gone a.cuts.now r.outline_on_table r.order_bound first.ensures.place r.cutting first.ensures.by_index side p c.if-left-lt3.true))

pub go_on-requires-clause-underway : goal.go_on-requires-clause-underway
go_on-requires-clause-underway c =
    let a = c.args in
    let w = window_of a.numbers.now in
    let r = c.requires in
    let first = c.first_cutting-k in
    let side = side_is a.order r.order_bound first.result (omega (arith, first.ensures.place)) (ap (λ (xs : List ℕ). get_or xs first.result 0) c.sides_of.ensures.value) in
    let p = c.pass-p.ensures w (c.limit_of.ensures w (search (rules, number_at))) in
    first_more a.cuts.now r.outline_on_table r.order_bound first.ensures.place r.cutting first.ensures.by_index side p c.if-left-lt3.false
