-- The corner that is put in stands where the outline's corner k goes, and is as a memory has it.
use Rattle.std.proofs.Common.{◌≡◌, ℕ, ◌+◌, ◌*◌, ◌-◌, ◌/◌, ◌<◌, ◌≤◌, List, get_or, sym, ap, ◌∙◌, subst, arith, rules, length}
use mathlib.Core.Logic.{inl, ⊎_elim}
use native.Mathlib.Nat.{eq-or-lt_of_le}
use lib.IntN.{ℤ, pos}
use mir.Facts.{to_z_pos}
use Rattle.convex.specs.Corners.{grid_point}
use Rattle.memory.specs.Tagged.{loaded_of, put_at, Tagged, tagged, corner_in, Brought}
use Rattle.memory.proofs.Memories.{Put, put_at_lem}
use Rattle.limits.proofs.Owned.{loaded_of_lem}
use Rattle.first_pass.proofs.load.Goals as goal

-- one corner more
brought_more : {g m₀ m m' : List ℤ} {from at k i : ℕ} {c : Tagged} → from ≤ k → i + from ≡ at + k → c ≡ corner_in g k → Put m m' i c → Brought g m₀ m from k at
    → Brought g m₀ m' from (k + 1) at
brought_more {g} {m₀} {m} {m'} {from} {at} {k} {i} {c} l e q p b = record {
  brought = λ j h. ⊎_elim
      (λ (d : from + j ≡ k). let a : at + j ≡ i = omega arith in ap (corner_in m') a ∙ p.put ∙ q ∙ ap (corner_in g) (sym d))
      (λ d. p.others (at + j) (inl (omega arith)) ∙ b.brought j d)
      (eq-or-lt_of_le (omega arith));
  before = λ j h. p.others j (inl (omega arith)) ∙ b.before j h;
}

pub loop-k-preserved : goal.loop-k-preserved
loop-k-preserved c =
    let zs = c.args.outline.now in
    let k = c.loop-k.k in
    let m = c.loop-k.m in
    let i = c.args.at + (k - c.args.from) in
    let corner = grid_point (get_or zs (2 * k) (pos 0)) (get_or zs (2 * k + 1) (pos 0)) in
    let below : k < length zs / 2 = omega (arith, c.requires.from_le_to.1) in
    let fits : 4 * i + 4 ≤ length m = omega arith in
    let wrote : c.put.new.m ≡ put_at m i corner (pos k) = search (rules, to_z_pos) in
    let put = subst (λ (n : List ℤ). Put m n i (tagged corner (pos k))) (sym wrote) (put_at_lem m i _ _ fits) in
    let own : tagged corner (pos k) ≡ corner_in (loaded_of zs) k =
    λ i. tagged (sym ((loaded_of_lem zs).corner k below) i) (sym ((loaded_of_lem zs).tag k below) i) in
    brought_more (omega arith) (omega arith) own put c.loop-k.invariant
