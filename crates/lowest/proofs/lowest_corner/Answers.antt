-- The test compares the corners in the memory, which are those of the ring.
use Rattle.std.proofs.Common.{sym, rules}
use Rattle.whole.specs.Choice.{Decides}
use Rattle.rings.specs.Points.{Before}
use Rattle.memory.specs.Memory.{point_in, ring_in}
use Rattle.memory.proofs.Memories.{ring_length}
use Rattle.lowest.proofs.Downhill.{decides_same}
use Rattle.lowest.proofs.Memory.{memory_at}
use Rattle.lowest.proofs.lowest_corner.Goals as goal

pub returns : goal.returns
returns c =
    let m = c.args.m.now in
    let n = c.args.n in
    c.lowest_by.ensures (ring_in m n) (record {
      ring = c.requires.ring;
      count = sym (ring_length m 0 n);
      told = λ i j k l b e. let t : Decides b (Before (point_in m i) (point_in m j)) = search rules in decides_same (memory_at m k) (memory_at m l) t;
    })
