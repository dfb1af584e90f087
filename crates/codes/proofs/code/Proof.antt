-- `codes::code` meets its contract: the bits of x and of y, joined. Assumes nothing.
use mathlib.Core.Path.{◌∙◌}
use lib.Bits.{bit_or}
use Rattle.strokes.proofs.Reading.{read_is, read_on_table}
use Rattle.codes.specs.Codes.{code as Codes·code}
use Rattle.codes.specs.Workers.{outside_of}
use Rattle.codes.proofs.code.Statement.{statement}
use Rattle.codes.proofs.code.Tie as tie

outside-requires : tie.Need-outside-requires
outside-requires c κs =
    let p = c.before.before.before.before.requires in
    let w = p.0 in
    let s = p.1.0 in
    (read_on_table w.left, (read_on_table w.right, (read_on_table s.x1, (read_on_table s.x2, p.1.1))))

outside-requires-2 : tie.Need-outside-requires-2
outside-requires-2 c κs =
    let p = c.before.before.before.before.before.before.before.before.before.requires in
    let w = p.0 in
    let s = p.1.0 in
    (read_on_table w.bottom, (read_on_table w.top, (read_on_table s.y1, (read_on_table s.y2, p.1.1))))

returns : tie.Need-returns
unfolding Codes·code
returns c =
    let a = c.before.before.before.before.before.before.before.before.before.before in
    let w = a.requires.0 in
    let s = a.requires.1.0 in
    let across = c.before.before.before.before.before.outside.ensures
    ∙ (λ i. outside_of (read_is w.left i) (read_is w.right i) (read_is s.x1 i) (read_is s.x2 i) a.args.t 1 2) in
    let up = c.outside-2.ensures ∙ (λ i. outside_of (read_is w.bottom i) (read_is w.top i) (read_is s.y1 i) (read_is s.y2 i) a.args.t 4 8) in
    λ i. bit_or (across i) (up i)

pub code_spec : {M : Type 1} → statement M
code_spec = tie.close (tie.spec outside-requires outside-requires-2 returns)
