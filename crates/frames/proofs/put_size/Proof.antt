-- The two sizes and the style, one after another; the numbers are of the measured view.
use native.Mathlib.Omega.{arith}
use Rattle.text.proofs.Puts.{put_then}
use Rattle.frames.specs.Frames.{size}
use borrow.Author.Rules.{rules}
use Rattle.frames.proofs.put_size.Statement.{statement}
use Rattle.frames.proofs.put_size.Tie as tie

pixels-high-requires : tie.Need-pixels_high-pixels-requires
pixels-high-requires c κs = search rules

extent-requires : tie.Need-extent-e-requires
extent-requires c κs = search rules

height-requires : tie.Need-height-high-requires
height-requires c κs = search rules

put-labelled-requires : tie.Need-put_labelled-a-requires
put-labelled-requires c κs = search rules

mul-put-labelled-pair : tie.Need-overflow_mul-e
mul-put-labelled-pair c = search rules

mul-put-labelled-pair-2 : tie.Need-overflow_mul-high
mul-put-labelled-pair-2 c = search rules

mul-put-labelled-pair-3 : tie.Need-overflow_mul-e-2
mul-put-labelled-pair-3 c = search rules

add-put-labelled-pair : tie.Need-overflow_add-high
add-put-labelled-pair c = search rules

put-labelled-pair-requires : tie.Need-put_labelled_pair-b-requires
put-labelled-pair-requires c κs = search rules

put-requires : tie.Need-put-requires
put-requires c κs = search rules

same_length : tie.Need-shape_of-page
same_length c = search rules

returns : tie.Need-returns
unfolding size
returns c =
    let at₆ = c.before.before in
    let at₅ = at₆.before.before.before.before.before in
    let at₄ = at₅.before.before.before.before.before in
    let at₃ = at₄.before.before.before in
    let at₂ = at₃.before in
    let at₁ = at₂.before in
    let p = at₄.put_labelled-a.ensures in
    let q = at₅.put_labelled_pair-b.ensures in
    let r = at₆.put.ensures in (
      rw (← at₁.pixels_high-pixels.ensures, ← at₂.extent-e.ensures.0, ← at₃.height-high.ensures.0) (put_then (put_then p.0 q.0) r),
      omega (arith, p.1, q.1, r.ends),
    )

pub put_size_spec : {M : Type 1} → statement M
put_size_spec =
    tie.close
    (tie.spec
    pixels-high-requires
    extent-requires
    height-requires
    put-labelled-requires
    mul-put-labelled-pair
    mul-put-labelled-pair-2
    mul-put-labelled-pair-3
    add-put-labelled-pair
    put-labelled-pair-requires
    put-requires
    same_length
    returns)
