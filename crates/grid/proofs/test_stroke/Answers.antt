-- The four numbers as they are read are the stroke's.
use mathlib.Core.Path.{◌≡◌, ◌∙◌}
use borrow.Author.Tests.{lt-ltb, le-ltb}
use Rattle.grid.specs.Table.{first_off, ends}
use Rattle.grid.specs.Refusals.{off_table, stroke_refusal, tested}
use Rattle.grid.proofs.Ranges.{read_four}
use Rattle.grid.proofs.test_stroke.Goals as goal

pub returns-then-off-lt4 : goal.returns-then-off-lt4
unfolding stroke_refusal off_table tested
returns-then-off-lt4 c =
    let g = c.struct_told-1.given in
    let off : c.first_off_of_four-off.result ≡ first_off (ends c.args.s) = c.first_off_of_four-off.ensures ∙ read_four _ _ _ _ g.0.1 g.1.0.1 g.1.1.0.1 g.1.1.1.0.1 in
    simp (← off, lt-ltb _ _ c.if-off-lt4.true)

pub returns : goal.returns
unfolding stroke_refusal off_table tested
returns c =
    let g = c.struct_told-1.given in
    let off : c.first_off_of_four-off.result ≡ first_off (ends c.args.s) = c.first_off_of_four-off.ensures ∙ read_four _ _ _ _ g.0.1 g.1.0.1 g.1.1.0.1 g.1.1.1.0.1 in
    simp (← off, le-ltb _ _ c.if-off-lt4.false)
