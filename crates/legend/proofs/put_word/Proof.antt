-- Each arm puts the word that the definition has for its number.
use native.Mathlib.Omega.{arith}
use borrow.Author.Tests.{eq-eqb, ne_eqb}
use Rattle.legend.specs.Legends.{strip_word}
use borrow.Author.Rules.{rules}
use Rattle.legend.proofs.put_word.Statement.{statement}
use Rattle.legend.proofs.put_word.Tie as tie

put-requires : tie.Need-put-requires
put-requires c κs = search rules

same_length : tie.Need-shape_of-page-then-n-eq1
same_length c = search rules

returns : tie.Need-returns-then-n-eq1
unfolding strip_word
returns c =
    let p = c.before.before in
    let i = p.before.before.before in
    (rw (eq-eqb i.before.before.args.n 1 i.if-n-eq1.true) p.put.ensures, omega (arith, p.put.ensures.ends))

put-requires-2 : tie.Need-put-requires-2
put-requires-2 c κs = search rules

same-length-2 : tie.Need-shape_of-page
same-length-2 c = search rules

returns-2 : tie.Need-returns
unfolding strip_word
returns-2 c =
    let p = c.before.before in
    let i = p.before.before.before in
    (rw (ne_eqb i.before.before.args.n 1 i.if-n-eq1.false) p.put-2.ensures, omega (arith, p.put-2.ensures.ends))

pub put_word_spec : {M : Type 1} → statement M
put_word_spec =
    tie.close
    (tie.spec
    put-requires
    same_length
    returns
    put-requires-2
    same-length-2
    returns-2)
