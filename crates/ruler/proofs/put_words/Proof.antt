-- Each arm puts the words that the definition has for its number.
use native.Mathlib.Omega.{arith}
use borrow.Author.Tests.{ne_eqb}
use Rattle.ruler.specs.Rulers.{bar_words}
use borrow.Author.Rules.{rules}
use Rattle.ruler.proofs.put_words.Statement.{statement}
use Rattle.ruler.proofs.put_words.Tie as tie

put-requires : tie.Need-put-requires
put-requires c κs = search rules

put-requires-2 : tie.Need-put-requires-in-320
put-requires-2 c κs = search rules

put-requires-3 : tie.Need-put-requires-in-3200
put-requires-3 c κs = search rules

put-requires-4 : tie.Need-put-requires-in-32000
put-requires-4 c κs = search rules

put-requires-5 : tie.Need-put-requires-in_default
put-requires-5 c κs = search rules

same_length : tie.Need-shape_of-page-in-32
same_length c = search rules

returns : tie.Need-returns-in-32
unfolding bar_words
returns c = let p = c.before.before.put.ensures in (rw c.before.before.before.before.before.in-32.is p, omega (arith, p.ends))

same-length-2 : tie.Need-shape_of-page-in-320
same-length-2 c = search rules

returns-2 : tie.Need-returns-in-320
unfolding bar_words
returns-2 c = let p = c.before.before.put-in-320.ensures in (rw c.before.before.before.before.before.in-320.is p, omega (arith, p.ends))

same-length-3 : tie.Need-shape_of-page-in-3200
same-length-3 c = search rules

returns-3 : tie.Need-returns-in-3200
unfolding bar_words
returns-3 c = let p = c.before.before.put-in-3200.ensures in (rw c.before.before.before.before.before.in-3200.is p, omega (arith, p.ends))

same-length-4 : tie.Need-shape_of-page-in-32000
same-length-4 c = search rules

returns-4 : tie.Need-returns-in-32000
unfolding bar_words
returns-4 c = let p = c.before.before.put-in-32000.ensures in (rw c.before.before.before.before.before.in-32000.is p, omega (arith, p.ends))

same-length-5 : tie.Need-shape_of-page-in_default
same-length-5 c = search rules

returns-5 : tie.Need-returns-in_default
unfolding bar_words
returns-5 c =
    let p = c.before.before.put-in_default.ensures in
    let l = c.before.before.before.before.before.before.before.args.long in
    let n = c.before.before.before.before.before.in_default.in_default-own.rest in
    (rw (ne_eqb l 32 n.0.0.0.1, ne_eqb l 320 n.0.0.1, ne_eqb l 3200 n.0.1, ne_eqb l 32000 n.1) p, omega (arith, p.ends))

pub put_words_spec : {M : Type 1} → statement M
put_words_spec =
    tie.close
    (tie.spec
    put-requires
    put-requires-2
    put-requires-3
    put-requires-4
    put-requires-5
    same_length
    returns
    same-length-2
    returns-2
    same-length-3
    returns-3
    same-length-4
    returns-4
    same-length-5
    returns-5)
