-- `text::put_count` meets its contract: the byte follows the digits. Assumes nothing.
use native.Mathlib.Omega.{arith}
use Rattle.text.proofs.Puts.{put_byte}
use borrow.Author.Rules.{rules}
use Rattle.text.proofs.put_count.Statement.{statement}
use Rattle.text.proofs.put_count.Tie as tie

put-natural-requires : tie.Need-put_natural-end-requires
put-natural-requires c κs = search rules

slice-write-page : tie.Need-bounds-page-end
slice-write-page c = search rules

add-result : tie.Need-overflow_add-result
add-result c = search rules

same_length : tie.Need-shape_of-page
same_length c = search rules

returns : tie.Need-returns
returns c = let p = c.before.before.put_natural-end.ensures in (put_byte _ (omega (arith, p.0.same)) p.0, omega (arith, p.1))

pub put_count_spec : {M : Type 1} → statement M
put_count_spec =
    tie.close (tie.spec put-natural-requires slice-write-page add-result same_length returns)
