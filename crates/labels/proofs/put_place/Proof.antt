-- Words and numbers, one after another; the numbers are of the measured view.
use native.Mathlib.Omega.{arith}
use Rattle.text.proofs.Puts.{put_then}
use Rattle.labels.specs.Labels.{label_place}
use borrow.Author.Rules.{rules}
use Rattle.labels.proofs.put_place.Statement.{statement}
use Rattle.labels.proofs.put_place.Tie as tie

extent-requires : tie.Need-extent-e-requires
extent-requires c κs = search rules

width-requires : tie.Need-width-wide-requires
width-requires c κs = search rules

put-requires : tie.Need-put-a-requires
put-requires c κs = search rules

mul-put-thousandths : tie.Need-overflow_mul-e
mul-put-thousandths c = search rules

put-thousandths-requires : tie.Need-put_thousandths-b-requires
put-thousandths-requires c κs = search rules

mul-put-labelled-pair : tie.Need-overflow_mul-e-2
mul-put-labelled-pair c = search rules

mul-put-labelled-pair-2 : tie.Need-overflow_mul-wide
mul-put-labelled-pair-2 c = search rules

sub-put-labelled-pair : tie.Need-overflow_sub-e
sub-put-labelled-pair c = search rules

add-put-labelled-pair : tie.Need-overflow_add-e
add-put-labelled-pair c = search rules

mul-put-labelled-pair-3 : tie.Need-overflow_mul-e-3
mul-put-labelled-pair-3 c = search rules

sub-put-labelled-pair-2 : tie.Need-overflow_sub-e-2
sub-put-labelled-pair-2 c = search rules

put-labelled-pair-requires : tie.Need-put_labelled_pair-c-requires
put-labelled-pair-requires c κs = search rules

put-requires-2 : tie.Need-put-requires
put-requires-2 c κs = search rules

same_length : tie.Need-shape_of-page
same_length c = search rules

returns : tie.Need-returns
unfolding label_place
returns c =
    let at₆ = c.before.before in
    let at₅ = at₆.before.before.before.before.before in
    let at₄ = at₅.before.before.before.before.before in
    let at₃ = at₄.before.before.before.before in
    let at₂ = at₃.before.before.before in
    let at₁ = at₂.before in
    let p = at₃.put-a.ensures in
    let q = at₄.put_thousandths-b.ensures in
    let r = at₅.put_labelled_pair-c.ensures in
    let s = at₆.put.ensures in (
      rw (← at₁.extent-e.ensures.0, ← at₂.width-wide.ensures.0) (put_then (put_then (put_then p q.0) r.0) s),
      omega (arith, p.ends, q.1, r.1, s.ends),
    )

pub put_place_spec : {M : Type 1} → statement M
put_place_spec =
    tie.close
    (tie.spec
    extent-requires
    width-requires
    put-requires
    mul-put-thousandths
    put-thousandths-requires
    mul-put-labelled-pair
    mul-put-labelled-pair-2
    sub-put-labelled-pair
    add-put-labelled-pair
    mul-put-labelled-pair-3
    sub-put-labelled-pair-2
    put-labelled-pair-requires
    put-requires-2
    same_length
    returns)
