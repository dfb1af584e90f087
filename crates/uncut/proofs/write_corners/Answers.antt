-- A corner's two numbers are written over 1, and behind the last corner nothing is to come.
use Rattle.std.proofs.Common.{◌≡◌, suc, ◌^◌, ◌<◌, ◌+◌, ◌*◌, pos, get_or, List, ℤ, subst, arith, rules, w32}
use lib.Signed.{mag}
use native.Mathlib.Numerals.{towards_suc}
use Rattle.whole.proofs.Comparisons.{back}
use Rattle.grid.proofs.Fill.{Filled, filled_end}
use Rattle.uncut.proofs.OwnCorners.{over_one, over_one_are, over_one_length, next_own, none_due}
use Rattle.uncut.proofs.write_corners.Goals as goal

pub loop-i-preserved : goal.loop-i-preserved
loop-i-preserved c =
    let zs = c.args.c.now in
    let i = c.loop-i.i in
    let x : mag (get_or zs (2 * i) (pos 0)) < 2 ^ 31 = search rules in
    let y : mag (get_or zs (2 * i + 1) (pos 0)) < 2 ^ 31 = search rules in
    let e : suc (suc (2 * i)) ≡ 2 * suc i = omega arith in
    let f : suc (suc (suc (suc (4 * i)))) ≡ 4 * suc i = omega arith in
    let h = next_own zs (2 * i) (omega arith) (omega (arith, over_one_length zs c.requires.c_len)) c.loop-i.invariant in
    simp (back w32 (get_or zs (2 * i) (pos 0)) x, back w32 (get_or zs (2 * i + 1) (pos 0)) y) (simp towards_suc (rw (e, f) at (simp towards_suc at h)))

pub returns : goal.returns
returns c =
    let zs = c.args.c.now in
    record {
      numbers = over_one zs;
      are = over_one_are zs;
      output = filled_end (subst (λ (rest : List ℤ). Filled (over_one zs) rest c.loop-i.out c.args.out.now (4 * c.loop-i.i)) (none_due zs (2 * c.loop-i.i) (omega arith)) c.loop-i.invariant);
    }
