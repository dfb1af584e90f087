-- Words and the two sides of the strip, one after another.
use native.Mathlib.Omega.{arith}
use Rattle.text.proofs.Puts.{put_then}
use Rattle.captions.specs.Captions.{strip_size}
use borrow.Author.Rules.{rules}
use Rattle.captions.proofs.put_size.Statement.{statement}
use Rattle.captions.proofs.put_size.Tie as tie

width-requires : tie.Need-width-wide-requires
width-requires c κs = search rules

height-requires : tie.Need-height-high-requires
height-requires c κs = search rules

put-requires : tie.Need-put-a-requires
put-requires c κs = search rules

put-millimetres-requires : tie.Need-put_millimetres-b-requires
put-millimetres-requires c κs = search rules

put-requires-2 : tie.Need-put-c-requires
put-requires-2 c κs = search rules

put-millimetres-requires-2 : tie.Need-put_millimetres-d-requires
put-millimetres-requires-2 c κs = search rules

put-requires-3 : tie.Need-put-requires
put-requires-3 c κs = search rules

same_length : tie.Need-shape_of-page
same_length c = search rules

returns : tie.Need-returns
unfolding strip_size
returns c =
    let at₇ = c.before.before in
    let at₆ = at₇.before.before.before.before.before in
    let at₅ = at₆.before.before.before.before in
    let at₄ = at₅.before.before.before.before.before in
    let at₃ = at₄.before.before.before.before in
    let at₂ = at₃.before.before.before in
    let at₁ = at₂.before in
    let p = at₃.put-a.ensures in
    let q = at₄.put_millimetres-b.ensures in
    let r = at₅.put-c.ensures in
    let s = at₆.put_millimetres-d.ensures in
    let t = at₇.put.ensures in (
      rw (← at₁.width-wide.ensures.0, ← at₂.height-high.ensures.0) (put_then (put_then (put_then (put_then p q.0) r) s.0) t),
      omega (arith, p.ends, q.1, r.ends, s.1, t.ends),
    )

pub put_size_spec : {M : Type 1} → statement M
put_size_spec =
    tie.close
    (tie.spec
    width-requires
    height-requires
    put-requires
    put-millimetres-requires
    put-requires-2
    put-millimetres-requires-2
    put-requires-3
    same_length
    returns)
