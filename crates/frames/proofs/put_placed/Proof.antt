-- Words, numbers and a corner, one after another; the numbers are of the measured view.
use mir.Syntax.{w32}
use Rattle.whole.proofs.Comparisons.{back}
use native.Mathlib.Omega.{arith}
use Rattle.text.proofs.Puts.{put_then}
use Rattle.frames.specs.Frames.{placed}
use borrow.Author.Rules.{rules}
use Rattle.frames.proofs.put_placed.Statement.{statement}
use Rattle.frames.proofs.put_placed.Tie as tie

extent-requires : tie.Need-extent-e-requires
extent-requires c κs = search rules

width-requires : tie.Need-width-wide-requires
width-requires c κs = search rules

mul-put-labelled-pair : tie.Need-overflow_mul-e
mul-put-labelled-pair c = search rules

mul-put-labelled-pair-2 : tie.Need-overflow_mul-wide
mul-put-labelled-pair-2 c = search rules

sub-put-labelled-pair : tie.Need-overflow_sub-e
sub-put-labelled-pair c = search rules

mul-put-labelled-pair-3 : tie.Need-overflow_mul-e-2
mul-put-labelled-pair-3 c = search rules

put-labelled-pair-requires : tie.Need-put_labelled_pair-a-requires
put-labelled-pair-requires c κs = search rules

put-requires : tie.Need-put-b-requires
put-requires c κs = search rules

put-point-requires : tie.Need-put_point-c-requires
put-point-requires c κs = search rules

put-requires-2 : tie.Need-put-requires
put-requires-2 c κs = search rules

same_length : tie.Need-shape_of-page
same_length c = search rules

returns : tie.Need-returns
unfolding placed
returns c =
    let at₈ = c.before.before in
    let at₇ = at₈.before.before.before.before.before in
    let at₆ = at₇.before.before in
    let at₅ = at₆.before.before.before.before in
    let at₄ = at₅.before.before.before.before.before in
    let at₃ = at₄.before.before.before in
    let at₂ = at₃.before in
    let at₁ = at₂.before.before in
    let v = at₁.args.v in
    let t = at₆.struct_told-1.given in
    let p = at₄.put_labelled_pair-a.ensures in
    let q = at₅.put-b.ensures in
    let r = at₇.put_point-c.ensures in
    let s = at₈.put.ensures in
    let corner = (simp (back w32 v.left t.0.1, back w32 v.top t.1.1.1.0.1) at r.0) in
    (rw (← at₂.extent-e.ensures.0, ← at₃.width-wide.ensures.0) (put_then (put_then (put_then p.0 q) corner) s), omega (arith, p.1, q.ends, r.1, s.ends))

pub put_placed_spec : {M : Type 1} → statement M
put_placed_spec =
    tie.close
    (tie.spec
    extent-requires
    width-requires
    mul-put-labelled-pair
    mul-put-labelled-pair-2
    sub-put-labelled-pair
    mul-put-labelled-pair-3
    put-labelled-pair-requires
    put-requires
    put-point-requires
    put-requires-2
    same_length
    returns)
