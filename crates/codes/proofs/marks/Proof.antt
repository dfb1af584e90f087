-- `codes::marks` meets its contract: two tests of the numbers as they are read. Assumes nothing.
use mathlib.Core.Path.{◌∙◌}
use borrow.Author.Rules.{rules}
use lib.Bits.{bit_or}
use lib.Signed.{lt_z}
use mir.Facts.{to_z-of_z}
use Rattle.whole.specs.Choice.{when◌then◌else◌}
use Rattle.codes.proofs.marks.Statement.{statement}
use Rattle.codes.proofs.marks.Tie as tie

mark-requires : tie.Need-mark-requires
mark-requires c κs = search rules

mark-requires-2 : tie.Need-mark-requires-2
mark-requires-2 c κs = search rules

returns : tie.Need-returns
returns c =
    let f = c.before.before.ranges in
    let a = c.before.before.args in
    let low = c.before.mark.ensures ∙ (λ i. when lt_z (to_z-of_z f.x i) (to_z-of_z f.lo i) then a.under else 0) in
    let high = c.mark-2.ensures ∙ (λ i. when lt_z (to_z-of_z f.hi i) (to_z-of_z f.x i) then a.over else 0) in
    λ i. bit_or (low i) (high i)

pub marks_spec : {M : Type 1} → statement M
marks_spec = tie.close (tie.spec mark-requires mark-requires-2 returns)
