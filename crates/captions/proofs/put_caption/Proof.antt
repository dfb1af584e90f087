-- The place, the ruler, the size and the counts, one after another.
use Rattle.text.proofs.Puts.{put_then}
use Rattle.captions.specs.Captions.{caption}
use borrow.Author.Rules.{rules}
use Rattle.captions.proofs.put_caption.Statement.{statement}
use Rattle.captions.proofs.put_caption.Tie as tie

extent-requires : tie.Need-extent-e-requires
extent-requires c κs = search rules

put-caption-place-requires : tie.Need-put_caption_place-a-requires
put-caption-place-requires c κs = search rules

put-ruler-requires : tie.Need-put_ruler-b-requires
put-ruler-requires c κs = search rules

put-requires : tie.Need-put-c-requires
put-requires c κs = search rules

put-size-requires : tie.Need-put_size-d-requires
put-size-requires c κs = search rules

put-requires-2 : tie.Need-put-f-requires
put-requires-2 c κs = search rules

put-kept-requires : tie.Need-put_kept-g-requires
put-kept-requires c κs = search rules

put-requires-3 : tie.Need-put-requires
put-requires-3 c κs = search rules

same_length : tie.Need-shape_of-page
same_length c = search rules

returns : tie.Need-returns
unfolding caption
returns c =
    let at₈ = c.before.before in
    let at₇ = at₈.before.before.before.before.before in
    let at₆ = at₇.before.before.before.before in
    let at₅ = at₆.before.before.before.before.before in
    let at₄ = at₅.before.before.before.before in
    let at₃ = at₄.before.before.before.before.before in
    let at₂ = at₃.before.before.before.before in
    let at₁ = at₂.before.before in
    let p = at₂.put_caption_place-a.ensures in
    let q = at₃.put_ruler-b.ensures in
    let r = at₄.put-c.ensures in
    let s = at₅.put_size-d.ensures in
    let t = at₆.put-f.ensures in
    let u = at₇.put_kept-g.ensures in
    let v = at₈.put.ensures in
    rw (← at₁.extent-e.ensures.0) (put_then (put_then (put_then (put_then (put_then (put_then p.0 q.0) r) s.0) t) u.0) v)

pub put_caption_spec : {M : Type 1} → statement M
put_caption_spec =
    tie.close
    (tie.spec
    extent-requires
    put-caption-place-requires
    put-ruler-requires
    put-requires
    put-size-requires
    put-requires-2
    put-kept-requires
    put-requires-3
    same_length
    returns)
