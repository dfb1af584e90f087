-- Each arm puts the words that the definition has for its number, the last one those of the numbers from 12 on.
use native.Mathlib.Omega.{arith}
use borrow.Author.Tests.{ne_eqb}
use Rattle.refusals.specs.Words.{sentence}
use borrow.Author.Rules.{rules}
use Rattle.refusals.proofs.put_meaning.Statement.{statement}
use Rattle.refusals.proofs.put_meaning.Tie as tie

put-requires : tie.Need-put-requires
put-requires c κs = search rules

put-requires-2 : tie.Need-put-requires-in-2
put-requires-2 c κs = search rules

put-requires-3 : tie.Need-put-requires-in-3
put-requires-3 c κs = search rules

put-requires-4 : tie.Need-put-requires-in-4
put-requires-4 c κs = search rules

put-requires-5 : tie.Need-put-requires-in-5
put-requires-5 c κs = search rules

put-requires-6 : tie.Need-put-requires-in-6
put-requires-6 c κs = search rules

put-requires-7 : tie.Need-put-requires-in-7
put-requires-7 c κs = search rules

put-requires-8 : tie.Need-put-requires-in-8
put-requires-8 c κs = search rules

put-requires-9 : tie.Need-put-requires-in-9
put-requires-9 c κs = search rules

put-requires-10 : tie.Need-put-requires-in-10
put-requires-10 c κs = search rules

put-requires-11 : tie.Need-put-requires-in-11
put-requires-11 c κs = search rules

put-meaning-from-12-requires : tie.Need-put_meaning_from_12-requires
put-meaning-from-12-requires c κs = search rules

same_length : tie.Need-shape_of-page-in-0
same_length c = search rules

returns : tie.Need-returns-in-0
unfolding sentence
returns c = let p = c.before.before.put.ensures in (rw c.before.before.before.before.before.in-0.is p, omega (arith, p.ends))

same-length-2 : tie.Need-shape_of-page-in-2
same-length-2 c = search rules

returns-2 : tie.Need-returns-in-2
unfolding sentence
returns-2 c = let p = c.before.before.put-in-2.ensures in (rw c.before.before.before.before.before.in-2.is p, omega (arith, p.ends))

same-length-3 : tie.Need-shape_of-page-in-3
same-length-3 c = search rules

returns-3 : tie.Need-returns-in-3
unfolding sentence
returns-3 c = let p = c.before.before.put-in-3.ensures in (rw c.before.before.before.before.before.in-3.is p, omega (arith, p.ends))

same-length-4 : tie.Need-shape_of-page-in-4
same-length-4 c = search rules

returns-4 : tie.Need-returns-in-4
unfolding sentence
returns-4 c = let p = c.before.before.put-in-4.ensures in (rw c.before.before.before.before.before.in-4.is p, omega (arith, p.ends))

same-length-5 : tie.Need-shape_of-page-in-5
same-length-5 c = search rules

returns-5 : tie.Need-returns-in-5
unfolding sentence
returns-5 c = let p = c.before.before.put-in-5.ensures in (rw c.before.before.before.before.before.in-5.is p, omega (arith, p.ends))

same-length-6 : tie.Need-shape_of-page-in-6
same-length-6 c = search rules

returns-6 : tie.Need-returns-in-6
unfolding sentence
returns-6 c = let p = c.before.before.put-in-6.ensures in (rw c.before.before.before.before.before.in-6.is p, omega (arith, p.ends))

same-length-7 : tie.Need-shape_of-page-in-7
same-length-7 c = search rules

returns-7 : tie.Need-returns-in-7
unfolding sentence
returns-7 c = let p = c.before.before.put-in-7.ensures in (rw c.before.before.before.before.before.in-7.is p, omega (arith, p.ends))

same-length-8 : tie.Need-shape_of-page-in-8
same-length-8 c = search rules

returns-8 : tie.Need-returns-in-8
unfolding sentence
returns-8 c = let p = c.before.before.put-in-8.ensures in (rw c.before.before.before.before.before.in-8.is p, omega (arith, p.ends))

same-length-9 : tie.Need-shape_of-page-in-9
same-length-9 c = search rules

returns-9 : tie.Need-returns-in-9
unfolding sentence
returns-9 c = let p = c.before.before.put-in-9.ensures in (rw c.before.before.before.before.before.in-9.is p, omega (arith, p.ends))

same-length-10 : tie.Need-shape_of-page-in-10
same-length-10 c = search rules

returns-10 : tie.Need-returns-in-10
unfolding sentence
returns-10 c = let p = c.before.before.put-in-10.ensures in (rw c.before.before.before.before.before.in-10.is p, omega (arith, p.ends))

same-length-11 : tie.Need-shape_of-page-in-11
same-length-11 c = search rules

returns-11 : tie.Need-returns-in-11
unfolding sentence
returns-11 c = let p = c.before.before.put-in-11.ensures in (rw c.before.before.before.before.before.in-11.is p, omega (arith, p.ends))

same-length-12 : tie.Need-shape_of-page-in_default
same-length-12 c = search rules

returns-12 : tie.Need-returns-in_default
unfolding sentence
returns-12 c =
    let p = c.before.before.put_meaning_from_12.ensures in
    let l = c.before.before.before.before.before.before.args.number in
    let n = c.before.before.before.before.in_default.in_default-own.rest in (
      rw (
        ne_eqb l 0 n.0.0.0.0.0.0.0.0.0.0.1,
        ne_eqb l 2 n.0.0.0.0.0.0.0.0.0.1,
        ne_eqb l 3 n.0.0.0.0.0.0.0.0.1,
        ne_eqb l 4 n.0.0.0.0.0.0.0.1,
        ne_eqb l 5 n.0.0.0.0.0.0.1,
        ne_eqb l 6 n.0.0.0.0.0.1,
        ne_eqb l 7 n.0.0.0.0.1,
        ne_eqb l 8 n.0.0.0.1,
        ne_eqb l 9 n.0.0.1,
        ne_eqb l 10 n.0.1,
        ne_eqb l 11 n.1,
      ) p.0,
      p.1,
    )

pub put_meaning_spec : {M : Type 1} → statement M
put_meaning_spec =
    tie.close
    (tie.spec
    put-requires
    put-requires-2
    put-requires-3
    put-requires-4
    put-requires-5
    put-requires-6
    put-requires-7
    put-requires-8
    put-requires-9
    put-requires-10
    put-requires-11
    put-meaning-from-12-requires
    same_length
    returns
    same-length-2
    returns-2
    same-length-3
    returns-3
    same-length-4
    returns-4
    same-length-5
    returns-5
    same-length-6
    returns-6
    same-length-7
    returns-7
    same-length-8
    returns-8
    same-length-9
    returns-9
    same-length-10
    returns-10
    same-length-11
    returns-11
    same-length-12
    returns-12)
