-- The row, or nothing, as the test says.
use native.Mathlib.Omega.{arith}
use Rattle.text.proofs.Puts.{put_nothing}
use Rattle.dots.specs.Dots.{point_path}
use borrow.Author.Rules.{rules}
use Rattle.dots.proofs.put_point.Statement.{statement}
use Rattle.dots.proofs.put_point.Tie as tie

is-marked-requires : tie.Need-is_marked-requires
is-marked-requires c κs = search rules

mul-put-stroke : tie.Need-overflow_mul-k
mul-put-stroke c = search rules

add-put-stroke : tie.Need-overflow_add-k
add-put-stroke c = search rules

put-stroke-requires : tie.Need-put_stroke-requires
put-stroke-requires c κs = search rules

same_length : tie.Need-shape_of-page-then-is_marked
same_length c = search rules

returns : tie.Need-returns-then-is_marked
unfolding point_path
returns c =
    let m = c.before.before.before.before in
    let p = c.before.before.put_stroke.ensures in
    (rw (← m.before.is_marked.ensures, m.if-is_marked.true) p.0, p.1)

returns-2 : tie.Need-returns
unfolding point_path
returns-2 c = (rw (← c.before.is_marked.ensures, c.if-is_marked.false) (put_nothing _ (omega arith)), omega arith)

pub put_point_spec : {M : Type 1} → statement M
put_point_spec =
    tie.close
    (tie.spec
    is-marked-requires
    mul-put-stroke
    add-put-stroke
    put-stroke-requires
    same_length
    returns
    returns-2)
