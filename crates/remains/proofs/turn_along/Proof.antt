-- `remains::turn_along` meets its contract: the corner is put where it stands, with the side's tag. Assumes nothing.
use mathlib.Core.Path.{refl, ◌∙◌}
use borrow.Author.Rules.{rules}
use mir.Syntax.{w32}
use Rattle.whole.proofs.Comparisons.{back}
use Rattle.memory.specs.Tagged.{put_at}
use Rattle.remains.proofs.turn_along.Statement.{statement}
use Rattle.remains.proofs.turn_along.Tie as tie

corner-at-requires : tie.Need-corner_at-requires
corner-at-requires c κs = search rules

side-tag-requires : tie.Need-side_tag-requires
side-tag-requires c κs = search rules

put-requires : tie.Need-put-requires
put-requires c κs = search rules

add-result : tie.Need-overflow_add-result
add-result c = search rules

same_length : tie.Need-shape_of-m
same_length c = search rules

returns : tie.Need-returns
returns c =
    let t = c.before.before in
    let s = t.before.before.before in (
      refl,
      c.before.put.ensures
          ∙ (λ k. put_at s.args.m.now s.args.i (t.before.corner_at.ensures k) ((back w32 _ t.side_tag.type_inv ∙ t.side_tag.ensures) k)),
    )

pub turn_along_spec : {M : Type 1} → statement M
turn_along_spec = tie.close (tie.spec corner-at-requires side-tag-requires put-requires add-result same_length returns)
