-- The latest edge is kept: each corner's turn goes left, or the corners are not strictly convex; the changes are counted.
use Rattle.std.proofs.Common.{ℕ, ◌+◌, ◌*◌, sym, ap, ◌∙◌, subst, arith}
use lib.Dec.{eqb}
use Rattle.convex.specs.Ways.{way_from}
use Rattle.convex.proofs.Walking.{Walked, closing_is, walked_start, walked_short, few_changes, next_is, last_is, not_turning, walked_more, walked_end}
use Rattle.convex.proofs.strictly_convex.Goals as goal

pub loop-k-init : goal.loop-k-init
loop-k-init c =
    walked_start c.requires (closing_is c.requires (c.way_from-closing.ensures.value ∙ (λ i. way_from (c.corner_at.ensures i) (c.corner_at-2.ensures i))))

pub turns_left-requires-clause-short : goal.turns_left-requires-clause-short
turns_left-requires-clause-short c = walked_short c.requires c.loop-k.invariant

pub returns-then-not-turns_left : goal.returns-then-not-turns_left
returns-then-not-turns_left c =
    let n = next_is c.requires c.loop-k.invariant (omega arith) (c.way_from-next.ensures.value ∙ (λ i. way_from (c.corner_at-in-loop-k.ensures i) (c.corner_at-in-loop-k-2.ensures i))) in
    sym (not_turning c.requires c.loop-k.invariant n (sym c.turns_left.ensures ∙ c.if-not-turns_left.true))

pub overflow_add-changes : goal.overflow_add-changes
overflow_add-changes c = omega (arith, c.change-changes.ensures, few_changes c.requires c.loop-k.invariant c.way_from-next.result, c.requires.few)

pub loop-k-preserved : goal.loop-k-preserved
loop-k-preserved c =
    let zs = c.args.c.now in
    let next = c.way_from-next.result in
    let n = next_is c.requires c.loop-k.invariant (omega arith) (c.way_from-next.ensures.value ∙ (λ i. way_from (c.corner_at-in-loop-k.ensures i) (c.corner_at-in-loop-k-2.ensures i))) in
    let w = walked_more c.requires c.loop-k.invariant n (omega arith) (sym c.turns_left.ensures ∙ c.if-not-turns_left.false) in
    subst (Walked zs next _) (omega arith) (subst (λ (k : ℕ). Walked zs next (c.loop-k.changes + k) (2 * c.loop-k.k + 2)) (sym c.change-changes.ensures) w)

pub turns_left-requires-2-clause-short : goal.turns_left-requires-2-clause-short
turns_left-requires-2-clause-short c = walked_short c.requires c.loop-k.invariant

pub overflow_add-result : goal.overflow_add-result
overflow_add-result c = omega (arith, c.change.ensures, few_changes c.requires c.loop-k.invariant c.way_from-closing.result, c.requires.few)

pub returns-then-turns_left : goal.returns-then-turns_left
returns-then-turns_left c =
    let closes = closing_is c.requires (c.way_from-closing.ensures.value ∙ (λ i. way_from (c.corner_at.ensures i) (c.corner_at-2.ensures i))) in
    let n = last_is c.requires c.loop-k.invariant (omega arith) closes in
    ap (λ (k : ℕ). eqb (c.loop-k.changes + k) 2) c.change.ensures
    ∙ walked_end c.requires c.loop-k.invariant n (omega arith) (sym c.turns_left-2.ensures ∙ c.if-turns_left.true)

pub returns-else-turns_left : goal.returns-else-turns_left
returns-else-turns_left c =
    let closes = closing_is c.requires (c.way_from-closing.ensures.value ∙ (λ i. way_from (c.corner_at.ensures i) (c.corner_at-2.ensures i))) in
    let n = last_is c.requires c.loop-k.invariant (omega arith) closes in
    c.if-turns_left.false ∙ sym (not_turning c.requires c.loop-k.invariant n (sym c.turns_left-2.ensures ∙ c.if-turns_left.false))
