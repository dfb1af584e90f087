-- Four pieces, one after the other.
use native.Mathlib.Omega.{arith}
use Rattle.refusals.specs.Words.{refusal_words}
use Rattle.text.proofs.Puts.{put_then}
use borrow.Author.Rules.{rules}
use Rattle.refusals.proofs.put_line.Statement.{statement}
use Rattle.refusals.proofs.put_line.Tie as tie

put-refusal-requires : tie.Need-put_refusal-a-requires
put-refusal-requires c κs = search rules

put-requires : tie.Need-put-b-requires
put-requires c κs = search rules

put-meaning-requires : tie.Need-put_meaning-c-requires
put-meaning-requires c κs = search rules

put-requires-2 : tie.Need-put-requires
put-requires-2 c κs = search rules

same_length : tie.Need-shape_of-page
same_length c = search rules

returns : tie.Need-returns
unfolding refusal_words
returns c =
    let third = c.before.before.before.before.before.before.before in
    let second = third.before.before.before.before in
    let first = second.before.before.before.before.before in
    let p = first.put_refusal-a.ensures in
    let q = second.put-b.ensures in
    let r = third.put_meaning-c.ensures in
    let s = c.before.before.put.ensures in
    (put_then (put_then (put_then p.0 q) r.0) s, omega (arith, p.1, q.ends, r.1, s.ends))

pub put_line_spec : {M : Type 1} → statement M
put_line_spec =
    tie.close
    (tie.spec
    put-refusal-requires
    put-requires
    put-meaning-requires
    put-requires-2
    same_length
    returns)
