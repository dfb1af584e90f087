-- The size, the title and the ground, one after another.
use native.Mathlib.Omega.{arith}
use Rattle.text.proofs.Puts.{put_then}
use Rattle.frames.specs.Frames.{frame}
use borrow.Author.Rules.{rules}
use Rattle.frames.proofs.put_frame.Statement.{statement}
use Rattle.frames.proofs.put_frame.Tie as tie

put-size-requires : tie.Need-put_size-a-requires
put-size-requires c κs = search rules

put-kept-requires : tie.Need-put_kept-b-requires
put-kept-requires c κs = search rules

put-requires : tie.Need-put-requires
put-requires c κs = search rules

same_length : tie.Need-shape_of-page
same_length c = search rules

returns : tie.Need-returns
unfolding frame
returns c =
    let at₃ = c.before.before in
    let at₂ = at₃.before.before.before.before.before in
    let at₁ = at₂.before.before.before.before in
    let p = at₁.put_size-a.ensures in
    let q = at₂.put_kept-b.ensures in
    let r = at₃.put.ensures in
    (put_then (put_then p.0 q.0) r, omega (arith, p.1, q.1, r.ends))

pub put_frame_spec : {M : Type 1} → statement M
put_frame_spec =
    tie.close
    (tie.spec
    put-size-requires
    put-kept-requires
    put-requires
    same_length
    returns)
