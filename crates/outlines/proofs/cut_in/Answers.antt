-- What the passes left is given: a ring that stands in the memory, or nothing.
use Rattle.std.proofs.Common.{◌≡◌, ◌-◌, ◌*◌, List, ℤ, ℕ, length, take, drop, sym, subst, arith}
use Rattle.grid.specs.declared.Window.{Window}
use Rattle.rings.specs.Points.{Point}
use Rattle.rings.specs.Rings.{Ring}
use Rattle.memory.specs.Memory.{ring_in, ring_at}
use Rattle.passes.specs.Passes.{Ran}
use Rattle.passes.specs.declared.Leftover.{Leftover}
use Rattle.writing.specs.Writing.{GaveRing}
use Rattle.outlines.proofs.Giving.{LeftRing, in_order, left_ring, give_ring, give_none}
use Rattle.lowest.proofs.Memory.{ring_part}
use Rattle.outlines.proofs.cut_in.Goals as goal

-- the memory that holds the ring, from its first corner on
stands : {w : Window} {o : ℕ} {zs m : List ℤ} {l : Leftover} → Ran w o zs m l → LeftRing w o zs m l
    → let p = l.places in ring_in (take (length m - 4 * p.from) (drop (4 * p.from) m)) (p.to - p.from) ≡ ring_at m p
stands {m} {l} ran left = ring_part m l.places.from (l.places.to - l.places.from) (omega (arith, left.room, in_order ran))

pub returns-then-n-eq0 : goal.returns-then-n-eq0
returns-then-n-eq0 c = give_none c.requires.order_bound c.requires.outline_on_table c.run-left.ensures c.if-n-eq0.true

pub give_ring-numbers-requires-clause-ring : goal.give_ring-numbers-requires-clause-ring
give_ring-numbers-requires-clause-ring c =
    let l = left_ring c.requires.order_bound c.requires.outline_on_table c.run-left.ensures c.if-n-eq0.false in
    subst Ring (sym (stands c.run-left.ensures l)) l.ring

pub returns : goal.returns
returns c =
    let left = left_ring c.requires.order_bound c.requires.outline_on_table c.run-left.ensures c.if-n-eq0.false in
    give_ring c.requires.order_bound c.requires.outline_on_table left.passes
    (subst (λ (r : List Point). GaveRing r c.give_ring-numbers.result c.args.out.now c.give_ring-numbers.new.out) (stands c.run-left.ensures left)
    c.give_ring-numbers.ensures)
