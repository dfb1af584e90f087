-- The corners from the start to the end are written, and behind them those before it. Every corner is proper.
use Rattle.std.proofs.Common.{◌≡◌, ◌-◌, ◌*◌, ◌<◌, ◌≤◌, ◌++◌, ℕ, List, ℤ, length, take, drop, sym, ap, subst, arith}
use Rattle.rings.specs.Lists.{All}
use Rattle.rings.specs.Points.{Proper}
use Rattle.rings.proofs.Lists.{all_left, all_right, turned_all}
use Rattle.memory.specs.Memory.{ring_from, ring_in}
use Rattle.memory.proofs.Memories.{ring_length}
use Rattle.lowest.specs.Lowest.{started_at}
use Rattle.lowest.proofs.Lowest.{turned_at}
use Rattle.lowest.proofs.Memory.{ring_part, started_in}
use Rattle.writing.proofs.Writing.{wrote_same, wrote_rest}
use Rattle.writing.proofs.write_ring.Goals as goal

-- the n corners of a memory, started at place k
module _ (m : List ℤ) (n k : ℕ) (l : k < n) (h : 4 * n ≤ length m) (all : All Proper (ring_in m n)) where
  started : started_at (ring_in m n) k ≡ ring_from m k (n - k) ++ ring_from m 0 k
  started = started_in m (omega arith)

  proper : All Proper (ring_from m k (n - k) ++ ring_from m 0 k)
  proper = subst (All Proper) started (turned_all (turned_at (ring_in m n) k) all)

  part : ring_in (take (length m - 4 * k) (drop (4 * k) m)) (n - k) ≡ ring_from m k (n - k)
  part = ring_part m k (n - k) (omega arith)

pub write_corners-requires-clause-all : goal.write_corners-requires-clause-all
write_corners-requires-clause-all c =
    let r = c.requires in
    let m = c.args.m.now in
    let n = c.args.n in
    let k = c.args.start in
    subst (All Proper) (sym (part m n k r.start_lt_n r.n_in_bounds r.all)) (all_left (ring_from m k (n - k)) _ (proper m n k r.start_lt_n r.n_in_bounds r.all))

pub write_corners-requires-2-clause-all : goal.write_corners-requires-2-clause-all
write_corners-requires-2-clause-all c =
    let r = c.requires in
    all_right (ring_from c.args.m.now c.args.start (c.args.n - c.args.start)) (proper c.args.m.now c.args.n c.args.start r.start_lt_n r.n_in_bounds r.all)

pub returns : goal.returns
returns c =
    let r = c.requires in
    let m = c.args.m.now in
    let n = c.args.n in
    let k = c.args.start in
    let rest = n - k in
    wrote_same (sym (started m n k r.start_lt_n r.n_in_bounds r.all))
    (wrote_rest (4 * rest) (ap (λ (k : ℕ). 4 * k) (ring_length m k rest)) (omega (arith, ring_length m 0 k))
    (wrote_same (part m n k r.start_lt_n r.n_in_bounds r.all) c.write_corners.ensures)
    c.write_corners-2.ensures)
