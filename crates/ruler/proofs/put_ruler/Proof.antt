-- The bar, the unit and the words, one after another.
use native.Mathlib.Omega.{arith}
use Rattle.text.proofs.Puts.{put_then}
use Rattle.ruler.specs.Rulers.{ruler}
use borrow.Author.Rules.{rules}
use Rattle.ruler.proofs.put_ruler.Statement.{statement}
use Rattle.ruler.proofs.put_ruler.Tie as tie

bar-length-requires : tie.Need-bar_length-long-requires
bar-length-requires c κs = search rules

put-bar-requires : tie.Need-put_bar-a-requires
put-bar-requires c κs = search rules

put-labelled-requires : tie.Need-put_labelled-b-requires
put-labelled-requires c κs = search rules

put-requires : tie.Need-put-c-requires
put-requires c κs = search rules

put-words-requires : tie.Need-put_words-requires
put-words-requires c κs = search rules

same_length : tie.Need-shape_of-page
same_length c = search rules

returns : tie.Need-returns
unfolding ruler
returns c =
    let at₅ = c.before.before in
    let at₄ = at₅.before.before.before.before in
    let at₃ = at₄.before.before.before.before.before in
    let at₂ = at₃.before.before.before.before.before in
    let at₁ = at₂.before.before in
    let p = at₂.put_bar-a.ensures in
    let q = at₃.put_labelled-b.ensures in
    let r = at₄.put-c.ensures in
    let s = at₅.put_words.ensures in
    (rw (← at₁.bar_length-long.ensures) (put_then (put_then (put_then p.0 q.0) r) s.0), omega (arith, p.1, q.1, r.ends, s.1))

pub put_ruler_spec : {M : Type 1} → statement M
put_ruler_spec =
    tie.close
    (tie.spec
    bar-length-requires
    put-bar-requires
    put-labelled-requires
    put-requires
    put-words-requires
    same_length
    returns)
