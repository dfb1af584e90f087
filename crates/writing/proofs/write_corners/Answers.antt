-- A corner's two fractions are written behind those of the corners before it.
use Rattle.std.proofs.Common.{◌+◌, ◌*◌, ◌^◌, ◌<◌, ℤ, pos, get_or, ◌<ℤ◌, sym, subst, arith, rules, w32}
use lib.Signed.{mag}
use Rattle.whole.proofs.Comparisons.{back}
use Rattle.writing.proofs.Writing.{read_fraction, PartWritten, corner_from, part_starts, part_proper, part_goes_on, part_ends}
use Rattle.writing.proofs.write_corners.Goals as goal

pub loop-place-init : goal.loop-place-init
loop-place-init c = part_starts c.args.m.now c.args.n c.requires.all

pub write_fraction-requires-clause-pos_bound : goal.write_fraction-requires-clause-pos_bound
write_fraction-requires-clause-pos_bound c =
    let w : mag (get_or c.args.m.now (4 * c.loop-place.place + 2) (pos 0)) < 2 ^ 31 = search rules in
    subst (λ (z : ℤ). pos 0 <ℤ z) (sym (back w32 (get_or c.args.m.now (4 * c.loop-place.place + 2) (pos 0)) w)) (part_proper c.args.m.now c.args.n c.requires.all (omega arith) c.loop-place.invariant)

pub write_fraction-requires-in-loop-place-clause-pos_bound : goal.write_fraction-requires-in-loop-place-clause-pos_bound
write_fraction-requires-in-loop-place-clause-pos_bound c =
    let w : mag (get_or c.args.m.now (4 * c.loop-place.place + 2) (pos 0)) < 2 ^ 31 = search rules in
    subst (λ (z : ℤ). pos 0 <ℤ z) (sym (back w32 (get_or c.args.m.now (4 * c.loop-place.place + 2) (pos 0)) w)) (part_proper c.args.m.now c.args.n c.requires.all (omega arith) c.loop-place.invariant)

pub loop-place-preserved : goal.loop-place-preserved
loop-place-preserved c =
    let m = c.args.m.now in
    let p = corner_from m (4 * c.loop-place.place) in
    let x : mag p.X < 2 ^ 31 = search rules in
    let y : mag p.Y < 2 ^ 31 = search rules in
    let w : mag p.W < 2 ^ 31 = search rules in
    subst (PartWritten m c.args.n c.args.out.now _) (omega arith)
    (part_goes_on m c.args.n c.requires.all c.requires.n_in_bounds_2 (omega arith) c.loop-place.invariant
    (read_fraction p.X p.W x w c.write_fraction.ensures)
    (read_fraction p.Y p.W y w c.write_fraction-in-loop-place.ensures))

pub returns : goal.returns
returns c = part_ends c.args.m.now c.args.n c.requires.all (omega arith) c.loop-place.invariant
