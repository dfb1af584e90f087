-- The tests choose as the definition does.
use borrow.Author.Tests.{lt-ltb, le-ltb}
use Rattle.ruler.specs.Rulers.{bar_length}
use Rattle.ruler.proofs.bar_length.Statement.{statement}
use Rattle.ruler.proofs.bar_length.Tie as tie

returns : tie.Need-returns-then-e-lt5
unfolding bar_length
returns c = rw (lt-ltb c.before.args.e 5 c.if-e-lt5.true)

returns-2 : tie.Need-returns-then-e-lt50
unfolding bar_length
returns-2 c = let e = c.before.before.args.e in rw (le-ltb e 5 c.before.if-e-lt5.false, lt-ltb e 50 c.if-e-lt50.true)

returns-3 : tie.Need-returns-then-e-lt500
unfolding bar_length
returns-3 c =
    let at₂ = c.before.before in
    let at₁ = at₂.before in
    let e = at₁.args.e in
    rw (le-ltb e 5 at₂.if-e-lt5.false, le-ltb e 50 c.before.if-e-lt50.false, lt-ltb e 500 c.if-e-lt500.true)

returns-4 : tie.Need-returns-then-e-lt5000
unfolding bar_length
returns-4 c =
    let at₃ = c.before.before in
    let at₂ = at₃.before in
    let at₁ = at₂.before in
    let e = at₁.args.e in
    rw (le-ltb e 5 at₂.if-e-lt5.false, le-ltb e 50 at₃.if-e-lt50.false, le-ltb e 500 c.before.if-e-lt500.false, lt-ltb e 5000 c.if-e-lt5000.true)

returns-5 : tie.Need-returns
unfolding bar_length
returns-5 c =
    let at₃ = c.before.before in
    let at₂ = at₃.before in
    let at₁ = at₂.before in
    let e = at₁.args.e in
    rw (le-ltb e 5 at₂.if-e-lt5.false, le-ltb e 50 at₃.if-e-lt50.false, le-ltb e 500 c.before.if-e-lt500.false, le-ltb e 5000 c.if-e-lt5000.false)

pub bar_length_spec : {M : Type 1} → statement M
bar_length_spec =
    tie.close
    (tie.spec
    returns
    returns-2
    returns-3
    returns-4
    returns-5)
