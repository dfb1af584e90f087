-- A pass leaves a ring to go on from, or no area; a side that does not cut leaves the ring as it is.
use Rattle.std.proofs.Common.{◌≡◌, ℕ, ◌+◌, ◌-◌, ◌<◌, false, List, get_or, length, take, set, length-set, sym, ap, ◌∙◌, subst, arith}
use mathlib.Core.Path.{transport}
use lib.IntN.{ℤ}
use lib.Seq.{take_all}
use Rattle.grid.specs.Sides.{side_at}
use Rattle.limits.specs.Sides.{window_of}
use Rattle.limits.proofs.Sides.{place_side}
use Rattle.memory.specs.declared.Places.{Places}
use Rattle.memory.proofs.Memories.{ring_length}
use Rattle.passes.specs.Passes.{Running, Ran, without_area}
use Rattle.passes.proofs.Orders.{side_is}
use Rattle.passes.proofs.Running.{passed_over, run_gone, run_counted, run_ended}
use Rattle.passes.proofs.go_on.Goals as goal
use Rattle.passes.proofs.go_on.Goals.{then-cuts-side+else-p-lt3, else-cuts-side}

pub returns-then-p-lt3 : goal.returns-then-p-lt3
returns-then-p-lt3 c =
    let a = c.args in
    let o = c.requires.order_bound in
    let j = c.loop-j.j in
    let side = side_is a.order o j (omega arith) (ap (λ (xs : List ℕ). get_or xs j 0) c.sides_of-sides.ensures.value) in
    subst (Ran (window_of a.numbers.now) a.order a.outline.now c.pass-p.new.m) (sym c.nothing.ensures)
    (without_area (run_gone o (omega arith) side c.pass-p.ensures c.loop-j.invariant.1 c.if-p-lt3.true))

pub loop-j-preserved : goal.loop-j-preserved
loop-j-preserved c =
    let a = c.args in
    let l = c.loop-j in
    let o = c.requires.order_bound in
    let below : l.j < 4 = omega arith in
    let place = c.sides_of-sides.ensures.by_index l.j (omega arith) in
    let n = get_or c.sides_of-sides.result l.j 0 in
    let side = side_is a.order o l.j below (ap (λ (xs : List ℕ). get_or xs l.j 0) c.sides_of-sides.ensures.value) in
    let size : l.j < length l.counts = omega (arith, l.invariant.0) in
    let all = λ (p : Places) (m : List ℤ).
    Running (window_of a.numbers.now) a.order a.outline.now m p (l.j + 1) (take (l.j + 1) (set l.counts l.j (p.to - p.from))) in (
      length-set l.counts _ _ ∙ l.invariant.0,
      elim c.if-cuts-side.branch [
        | then-cuts-side+else-p-lt3 w ↦ transport (λ i. all (sym w.p-is i) (sym w.m-is i)) (run_counted l.counts o below side size w.pass-p.ensures l.invariant.1 w.if-p-lt3.false)
        | else-cuts-side w ↦
            let uncut = subst (λ (i : ℕ). get_or a.cuts.now i false ≡ false) (sym (place_side n place)) w.if-cuts-side.false in
            transport (λ i. all (sym w.p-is i) (sym w.m-is i))
            (run_counted l.counts o below side size (passed_over (side_at n) (c.requires.cutting (side_at n) uncut) l.invariant.1) l.invariant.1
            (omega (arith, l.invariant.1.held.ring.three, ring_length l.m l.p.from (l.p.to - l.p.from))))
      ],
    )

pub returns : goal.returns
returns c =
    let a = c.args in
    let l = c.loop-j in
    let end : l.j ≡ 4 = omega arith in
    let all : take l.j l.counts ≡ l.counts = take_all l.j l.counts (omega (arith, l.invariant.0)) in
    run_ended c.requires.order_bound (omega (arith, l.auto.m, c.requires.outline_in_bounds))
    (transport (λ i. Running (window_of a.numbers.now) a.order a.outline.now l.m l.p (end i) (all i)) l.invariant.1)
