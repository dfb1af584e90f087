-- Without room nothing is written; with room, the ring from its lowest corner on. Four numbers a corner.
use Rattle.std.proofs.Common.{◌≡◌, ℕ, ◌*◌, length, List, ℤ, ap, arith}
use Rattle.memory.specs.Memory.{ring_in}
use Rattle.memory.proofs.Memories.{ring_length}
use Rattle.lowest.proofs.Lowest.{turned_at, lowest_starts}
use Rattle.writing.proofs.Writing.{gave_short, gave_wrote}
use Rattle.writing.proofs.give_ring.Goals as goal

four : (m : List ℤ) (n : ℕ) → 4 * length (ring_in m n) ≡ 4 * n
four m n = ap (λ (k : ℕ). 4 * k) (ring_length m 0 n)

pub write_ring-requires-clause-start_lt_n : goal.write_ring-requires-clause-start_lt_n
write_ring-requires-clause-start_lt_n c = omega (arith, c.lowest_corner-start.ensures.inside, ring_length c.args.m.now 0 c.args.n)

pub returns-then-need-out : goal.returns-then-need-out
returns-then-need-out c =
    let m = c.args.m.now in
    let n = c.args.n in
    gave_wrote (four m n) (turned_at (ring_in m n) c.lowest_corner-start.result) (lowest_starts c.requires.ring c.lowest_corner-start.ensures) c.write_ring.ensures

pub returns-else-need-out : goal.returns-else-need-out
returns-else-need-out c = gave_short (four c.args.m.now c.args.n) c.requires.ring c.if-need-out.false
