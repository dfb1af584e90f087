-- `text::put_number` meets its contract: an i32 has at most ten digits and a minus; the byte follows them. Assumes nothing.
use native.Mathlib.Omega.{arith}
use mir.Syntax.{w32, w64}
use mir.Facts.{to_z-of_z, sfits_widen}
use Rattle.text.proofs.Numbers.{integer_short}
use Rattle.text.proofs.Puts.{put_byte}
use borrow.Author.Rules.{rules}
use Rattle.text.proofs.put_number.Statement.{statement}
use Rattle.text.proofs.put_number.Tie as tie

cast-put-integer : tie.Need-overflow_cast-x
cast-put-integer c = rw (to_z-of_z c.before.before.ranges.x) (sfits_widen tt c.before.before.ranges.x)

put-integer-requires : tie.Need-put_integer-end-requires
put-integer-requires c κs = search rules

slice-write-page : tie.Need-bounds-page-end
slice-write-page c = search rules

add-result : tie.Need-overflow_add-result
add-result c = search rules

same_length : tie.Need-shape_of-page
same_length c = search rules

returns : tie.Need-returns
returns c =
    let s = c.before.before.before.before.before in
    let e = c.before.before.put_integer-end.ensures in
    let p = simp (to_z-of_z s.ranges.x, to_z-of_z {w = w64} (sfits_widen {w = w32} tt s.ranges.x)) at e.0 in
    (put_byte s.args.last (omega (arith, p.same)) p, omega (arith, p.ends, integer_short s.args.x s.ranges.x.sfits))

pub put_number_spec : {M : Type 1} → statement M
put_number_spec =
    tie.close
    (tie.spec
    cast-put-integer
    put-integer-requires
    slice-write-page
    add-result
    same_length
    returns)
