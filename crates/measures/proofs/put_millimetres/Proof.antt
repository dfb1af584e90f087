-- The whole millimetres alone, or a point and the decimals after them, as the definition chooses.
use Prim.Native.Nat.{◌%◌}
use native.Mathlib.Omega.{arith}
use borrow.Author.Tests.{eq-eqb, ne_eqb}
use Rattle.text.proofs.Puts.{put_then}
use Rattle.measures.specs.Measures.{millimetres}
use borrow.Author.Rules.{rules}
use Rattle.measures.proofs.put_millimetres.Statement.{statement}
use Rattle.measures.proofs.put_millimetres.Tie as tie

put-natural-requires : tie.Need-put_natural-requires
put-natural-requires c κs = search rules

same_length : tie.Need-shape_of-page-then-steps-eq0
same_length c = search rules

returns : tie.Need-returns-then-steps-eq0
unfolding millimetres
returns c =
    let s = c.before.before.before.before.before.before.args.steps in
    let p = c.before.before.put_natural.ensures in
    (rw (eq-eqb (s % 32) 0 c.before.before.before.before.if-steps-eq0.true) p.0, omega (arith, p.1))

put-count-requires : tie.Need-put_count-point-requires
put-count-requires c κs = search rules

put-decimals-requires : tie.Need-put_decimals-requires
put-decimals-requires c κs = search rules

same-length-2 : tie.Need-shape_of-page
same-length-2 c = search rules

returns-2 : tie.Need-returns
unfolding millimetres
returns-2 c =
    let at₁ = c.before.before.before.before.before.before in
    let s = at₁.before.before.before.before.args.steps in
    let p = at₁.put_count-point.ensures in
    let q = c.before.before.put_decimals.ensures in
    (rw (ne_eqb (s % 32) 0 at₁.before.before.if-steps-eq0.false) (put_then p.0 q.0), omega (arith, p.1, q.1))

pub put_millimetres_spec : {M : Type 1} → statement M
put_millimetres_spec =
    tie.close
    (tie.spec
    put-natural-requires
    same_length
    returns
    put-count-requires
    put-decimals-requires
    same-length-2
    returns-2)
