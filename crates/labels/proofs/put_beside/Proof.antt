-- Each side by the test of the definition.
use Prim.Native.Nat.{◌%◌}
use native.Mathlib.Omega.{arith}
use borrow.Author.Tests.{eq-eqb, ne_eqb}
use Rattle.labels.specs.Labels.{beside}
use borrow.Author.Rules.{rules}
use Rattle.labels.proofs.put_beside.Statement.{statement}
use Rattle.labels.proofs.put_beside.Tie as tie

put-labelled-requires : tie.Need-put_labelled-requires
put-labelled-requires c κs = search rules

same_length : tie.Need-shape_of-page-then-number-eq0
same_length c = search rules

returns : tie.Need-returns-then-number-eq0
unfolding beside
returns c =
    let m = c.before.before.before.before.before in
    let p = c.before.before.put_labelled.ensures in
    (rw (eq-eqb (m.before.before.args.number % 2) 0 m.if-number-eq0.true) p.0, omega (arith, p.1))

put-labelled-requires-2 : tie.Need-put_labelled-requires-2
put-labelled-requires-2 c κs = search rules

same-length-2 : tie.Need-shape_of-page
same-length-2 c = search rules

returns-2 : tie.Need-returns
unfolding beside
returns-2 c =
    let m = c.before.before.before.before.before in
    let p = c.before.before.put_labelled-2.ensures in
    (rw (ne_eqb (m.before.before.args.number % 2) 0 m.if-number-eq0.false) p.0, omega (arith, p.1))

pub put_beside_spec : {M : Type 1} → statement M
put_beside_spec =
    tie.close
    (tie.spec
    put-labelled-requires
    same_length
    returns
    put-labelled-requires-2
    same-length-2
    returns-2)
