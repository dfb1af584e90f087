-- The layers, the numbers and the points, one after another.
use native.Mathlib.Omega.{arith}
use Rattle.text.proofs.Puts.{put_then}
use Rattle.artwork.specs.Artwork.{artwork}
use borrow.Author.Rules.{rules}
use Rattle.artwork.proofs.put_artwork.Statement.{statement}
use Rattle.artwork.proofs.put_artwork.Tie as tie

extent-requires : tie.Need-extent-e-requires
extent-requires c κs = search rules

put-strip-requires : tie.Need-put_strip-a-requires
put-strip-requires c κs = search rules

put-drawn-requires : tie.Need-put_drawn-b-requires
put-drawn-requires c κs = search rules

put-labels-requires : tie.Need-put_labels-c-requires
put-labels-requires c κs = search rules

put-placed-requires : tie.Need-put_placed-d-requires
put-placed-requires c κs = search rules

put-all-requires : tie.Need-put_all-requires
put-all-requires c κs = search rules

same_length : tie.Need-shape_of-page
same_length c = search rules

returns : tie.Need-returns
unfolding artwork
returns c =
    let at₆ = c.before.before in
    let at₅ = at₆.before.before.before.before in
    let at₄ = at₅.before.before.before.before in
    let at₃ = at₄.before.before.before.before in
    let at₂ = at₃.before.before.before.before in
    let at₁ = at₂.before.before in
    let p = at₂.put_strip-a.ensures in
    let q = at₃.put_drawn-b.ensures in
    let r = at₄.put_labels-c.ensures in
    let s = at₅.put_placed-d.ensures in
    let t = at₆.put_all.ensures in (
      rw (← at₁.extent-e.ensures.0) (put_then (put_then (put_then (put_then p.0 q.0) r.0) s.0) t.0),
      omega (arith, p.1, q.1, r.1, s.1, t.1),
    )

pub put_artwork_spec : {M : Type 1} → statement M
put_artwork_spec =
    tie.close
    (tie.spec
    extent-requires
    put-strip-requires
    put-drawn-requires
    put-labels-requires
    put-placed-requires
    put-all-requires
    same_length
    returns)
