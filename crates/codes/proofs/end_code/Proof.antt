-- `codes::end_code` meets its contract: the bits of x and of y, joined. Assumes nothing.
use mathlib.Core.Path.{◌∙◌}
use borrow.Author.Rules.{rules}
use lib.Bits.{bit_or}
use mir.Syntax.{w32}
use mir.Facts.{to_z-of_z}
use Rattle.whole.proofs.Comparisons.{back}
use Rattle.codes.specs.Workers.{marks_of}
use Rattle.codes.proofs.end_code.Statement.{statement}
use Rattle.codes.proofs.end_code.Tie as tie

marks-requires : tie.Need-marks-requires
marks-requires c κs = search rules

marks-requires-2 : tie.Need-marks-requires-2
marks-requires-2 c κs = search rules

returns : tie.Need-returns
returns c =
    let st = c.before.before.before.before.before.before in
    let w = st.args.w in
    let g = c.before.before.before.before.before.struct_told-1.given in
    let across = c.before.before.before.marks.ensures
    ∙ (λ i. marks_of (back w32 w.left g.0.1 i) (back w32 w.right g.1.1.0.1 i) (to_z-of_z st.ranges.x i) 1 2) in
    let up = c.marks-2.ensures ∙ (λ i. marks_of (back w32 w.bottom g.1.0.1 i) (back w32 w.top g.1.1.1.0.1 i) (to_z-of_z st.ranges.y i) 4 8) in
    λ i. bit_or (across i) (up i)

pub end_code_spec : {M : Type 1} → statement M
end_code_spec = tie.close (tie.spec marks-requires marks-requires-2 returns)
