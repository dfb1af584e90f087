-- One lane more has met in a turn.
use Rattle.std.proofs.Common.{ℤ, ◌+◌, pos, sym, subst, get_or, arith, inl, inr}
use mathlib.Core.Logic.{⊎_elim}
use native.Mathlib.Nat.{eq-or-lt_of_le}
use lib.ListN.{set, length-set}
use Rattle.racks.specs.Pairs.{Compares}
use Rattle.racks.proofs.Common.{max_read}
use Rattle.racks.proofs.Pairs.{fewer_met, both_met, lane_met}
use Rattle.racks.proofs.compare_eight.Invariants.{Lanes}
use Rattle.racks.proofs.compare_eight.Goals as goal

pub loop-e-preserved : goal.loop-e-preserved
loop-e-preserved c =
    let e = c.loop-e.e in
    let found = c.loop-e.found in
    let value = max_read (get_or found e (pos 0)) _ (omega arith) c.in_common.type_inv c.max.result c.max.type_inv c.max.ensures.value in
    record {
      long = simp length-set c.loop-e.invariant.long;
      met = subst (λ (z : ℤ). Compares c.args.rack.now (Lanes c.args.i c.args.j (e + 1)) c.args.most (set found e z)) (sym value)
          (both_met c.loop-e.invariant.met
          (lane_met (c.args.i + e) (c.args.j + e) e found c.in_common.result (omega arith) (omega arith) (omega arith) c.in_common.ensures)
          (λ p q k. ⊎_elim (λ h. inr (h, omega (arith, k.2))) (λ h. inl (k.0, h, k.2))
          (eq-or-lt_of_le {n = p} {m = c.args.i + e} (omega (arith, k.1)))));
    }

pub returns : goal.returns
returns c = fewer_met c.loop-e.invariant.met (λ p q k. (k.first, omega (arith, k.last), omega (arith, k.near, k.far)))
