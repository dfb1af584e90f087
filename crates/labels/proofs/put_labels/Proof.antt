-- Nothing where the strokes are many, else the place and the numbers twice.
use native.Mathlib.Omega.{arith}
use borrow.Author.Tests.{lt-ltb, le-ltb}
use Rattle.text.proofs.Puts.{put_nothing, put_then}
use Rattle.labels.specs.Labels.{labels}
use borrow.Author.Rules.{rules}
use Rattle.labels.proofs.put_labels.Statement.{statement}
use Rattle.labels.proofs.put_labels.Tie as tie

returns : tie.Need-returns-then-count-gt30
unfolding labels
returns c = (rw (lt-ltb 30 c.before.before.args.count c.if-count-gt30.true) (put_nothing _ (omega arith)), omega arith)

put-place-requires : tie.Need-put_place-a-requires
put-place-requires c κs = search rules

put-texts-requires : tie.Need-put_texts-b-requires
put-texts-requires c κs = search rules

put-requires : tie.Need-put-c-requires
put-requires c κs = search rules

put-texts-requires-2 : tie.Need-put_texts-d-requires
put-texts-requires-2 c κs = search rules

put-requires-2 : tie.Need-put-requires
put-requires-2 c κs = search rules

same_length : tie.Need-shape_of-page
same_length c = search rules

returns-2 : tie.Need-returns
unfolding labels
returns-2 c =
    let at₅ = c.before.before in
    let at₄ = at₅.before.before.before.before.before in
    let at₃ = at₄.before.before.before.before in
    let at₂ = at₃.before.before.before.before.before in
    let at₁ = at₂.before.before.before.before in
    let few = at₁.before.before in
    let p = at₁.put_place-a.ensures in
    let q = at₂.put_texts-b.ensures in
    let r = at₃.put-c.ensures in
    let s = at₄.put_texts-d.ensures in
    let t = at₅.put.ensures in
    let n = few.before.before.args.count in (
      rw (le-ltb 30 n few.if-count-gt30.false) (put_then (put_then (put_then (put_then p.0 q.0) r) s.0) t),
      omega (arith, few.if-count-gt30.false, p.1, q.1, r.ends, s.1, t.ends),
    )

pub put_labels_spec : {M : Type 1} → statement M
put_labels_spec =
    tie.close
    (tie.spec
    returns
    put-place-requires
    put-texts-requires
    put-requires
    put-texts-requires-2
    put-requires-2
    same_length
    returns-2)
