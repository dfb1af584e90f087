-- Two lines.
use native.Mathlib.Omega.{arith}
use Rattle.text.proofs.Puts.{put_then}
use Rattle.legend.specs.Legends.{legend}
use borrow.Author.Rules.{rules}
use Rattle.legend.proofs.put_legend.Statement.{statement}
use Rattle.legend.proofs.put_legend.Tie as tie

put-line-requires : tie.Need-put_line-a-requires
put-line-requires c κs = search rules

put-line-requires-2 : tie.Need-put_line-requires
put-line-requires-2 c κs = search rules

same_length : tie.Need-shape_of-page
same_length c = search rules

returns : tie.Need-returns
unfolding legend
returns c =
    let at₂ = c.before.before in
    let at₁ = at₂.before.before.before.before in
    let p = at₁.put_line-a.ensures in
    let q = at₂.put_line.ensures in
    (put_then p.0 q.0, omega (arith, p.1, q.1))

pub put_legend_spec : {M : Type 1} → statement M
put_legend_spec = tie.close (tie.spec put-line-requires put-line-requires-2 same_length returns)
