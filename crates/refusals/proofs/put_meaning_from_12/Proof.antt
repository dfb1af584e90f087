-- Each arm puts the words that the definition has for its number.
use native.Mathlib.Omega.{arith}
use borrow.Author.Tests.{ne_eqb}
use Rattle.refusals.specs.Words.{sentence_from12}
use borrow.Author.Rules.{rules}
use Rattle.refusals.proofs.put_meaning_from_12.Statement.{statement}
use Rattle.refusals.proofs.put_meaning_from_12.Tie as tie

put-requires : tie.Need-put-requires
put-requires c κs = search rules

put-requires-2 : tie.Need-put-requires-in-17
put-requires-2 c κs = search rules

put-requires-3 : tie.Need-put-requires-in-18
put-requires-3 c κs = search rules

put-requires-4 : tie.Need-put-requires-in-19
put-requires-4 c κs = search rules

put-requires-5 : tie.Need-put-requires-in-23
put-requires-5 c κs = search rules

put-requires-6 : tie.Need-put-requires-in_default
put-requires-6 c κs = search rules

same_length : tie.Need-shape_of-page-in-16
same_length c = search rules

returns : tie.Need-returns-in-16
unfolding sentence_from12
returns c = let p = c.before.before.put.ensures in (rw c.before.before.before.before.before.in-16.is p, omega (arith, p.ends))

same-length-2 : tie.Need-shape_of-page-in-17
same-length-2 c = search rules

returns-2 : tie.Need-returns-in-17
unfolding sentence_from12
returns-2 c = let p = c.before.before.put-in-17.ensures in (rw c.before.before.before.before.before.in-17.is p, omega (arith, p.ends))

same-length-3 : tie.Need-shape_of-page-in-18
same-length-3 c = search rules

returns-3 : tie.Need-returns-in-18
unfolding sentence_from12
returns-3 c = let p = c.before.before.put-in-18.ensures in (rw c.before.before.before.before.before.in-18.is p, omega (arith, p.ends))

same-length-4 : tie.Need-shape_of-page-in-19
same-length-4 c = search rules

returns-4 : tie.Need-returns-in-19
unfolding sentence_from12
returns-4 c = let p = c.before.before.put-in-19.ensures in (rw c.before.before.before.before.before.in-19.is p, omega (arith, p.ends))

same-length-5 : tie.Need-shape_of-page-in-23
same-length-5 c = search rules

returns-5 : tie.Need-returns-in-23
unfolding sentence_from12
returns-5 c = let p = c.before.before.put-in-23.ensures in (rw c.before.before.before.before.before.in-23.is p, omega (arith, p.ends))

same-length-6 : tie.Need-shape_of-page-in_default
same-length-6 c = search rules

returns-6 : tie.Need-returns-in_default
unfolding sentence_from12
returns-6 c =
    let p = c.before.before.put-in_default.ensures in
    let l = c.before.before.before.before.before.before.before.args.number in
    let n = c.before.before.before.before.before.in_default.in_default-own.rest in (
      rw (
        ne_eqb l 16 n.0.0.0.0.1,
        ne_eqb l 17 n.0.0.0.1,
        ne_eqb l 18 n.0.0.1,
        ne_eqb l 19 n.0.1,
        ne_eqb l 23 n.1,
      ) p,
      omega (arith, p.ends),
    )

pub put_meaning_from_12_spec : {M : Type 1} → statement M
put_meaning_from_12_spec =
    tie.close
    (tie.spec
    put-requires
    put-requires-2
    put-requires-3
    put-requires-4
    put-requires-5
    put-requires-6
    same_length
    returns
    same-length-2
    returns-2
    same-length-3
    returns-3
    same-length-4
    returns-4
    same-length-5
    returns-5
    same-length-6
    returns-6)
