-- Words and numbers, one after another; the numbers are of the measured view.
use native.Mathlib.Omega.{arith}
use Rattle.text.proofs.Puts.{put_then}
use Rattle.captions.specs.Captions.{caption_place}
use borrow.Author.Rules.{rules}
use Rattle.captions.proofs.put_caption_place.Statement.{statement}
use Rattle.captions.proofs.put_caption_place.Tie as tie

extent-requires : tie.Need-extent-e-requires
extent-requires c κs = search rules

height-requires : tie.Need-height-high-requires
height-requires c κs = search rules

mul-put-labelled-pair : tie.Need-overflow_mul-e
mul-put-labelled-pair c = search rules

mul-put-labelled-pair-2 : tie.Need-overflow_mul-high
mul-put-labelled-pair-2 c = search rules

mul-put-labelled-pair-3 : tie.Need-overflow_mul-e-2
mul-put-labelled-pair-3 c = search rules

add-put-labelled-pair : tie.Need-overflow_add-high
add-put-labelled-pair c = search rules

put-labelled-pair-requires : tie.Need-put_labelled_pair-a-requires
put-labelled-pair-requires c κs = search rules

put-requires : tie.Need-put-requires
put-requires c κs = search rules

same_length : tie.Need-shape_of-page
same_length c = search rules

returns : tie.Need-returns
unfolding caption_place
returns c =
    let at₄ = c.before.before in
    let at₃ = at₄.before.before.before.before.before in
    let at₂ = at₃.before.before.before in
    let at₁ = at₂.before in
    let p = at₃.put_labelled_pair-a.ensures in
    let q = at₄.put.ensures in
    (rw (← at₁.extent-e.ensures.0, ← at₂.height-high.ensures.0) (put_then p.0 q), omega (arith, p.1, q.ends))

pub put_caption_place_spec : {M : Type 1} → statement M
put_caption_place_spec =
    tie.close
    (tie.spec
    extent-requires
    height-requires
    mul-put-labelled-pair
    mul-put-labelled-pair-2
    mul-put-labelled-pair-3
    add-put-labelled-pair
    put-labelled-pair-requires
    put-requires
    same_length
    returns)
