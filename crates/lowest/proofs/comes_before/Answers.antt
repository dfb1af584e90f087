-- The heights are compared by cross products, and where they are equal the places across.
use Rattle.std.proofs.Common.{◌^◌, ◌<◌, sym, ap, ◌∙◌, to_z, of_z, w64, rules}
use lib.Signed.{mag}
use Rattle.memory.specs.Memory.{point_in}
use Rattle.lowest.proofs.Widths.{product_is, factors_are}
use Rattle.lowest.proofs.Lowest.{by_height, by_width}
use Rattle.lowest.proofs.comes_before.Goals as goal

pub returns-then-a-b : goal.returns-then-a-b
returns-then-a-b c =
    let p = point_in c.args.m.now c.args.i in
    let q = point_in c.args.m.now c.args.j in
    let px : mag p.X < 2 ^ 31 = search rules in
    let py : mag p.Y < 2 ^ 31 = search rules in
    let pw : mag p.W < 2 ^ 31 = search rules in
    let qx : mag q.X < 2 ^ 31 = search rules in
    let qy : mag q.Y < 2 ^ 31 = search rules in
    let qw : mag q.W < 2 ^ 31 = search rules in
    by_width
    (sym (product_is p.Y q.W py qw) ∙ ap (to_z w64) c.if-a-b.true ∙ product_is q.Y p.W qy pw)
    (product_is p.X q.W px qw)
    (product_is q.X p.W qx pw)

pub returns : goal.returns
returns c =
    let p = point_in c.args.m.now c.args.i in
    let q = point_in c.args.m.now c.args.j in
    let py : mag p.Y < 2 ^ 31 = search rules in
    let pw : mag p.W < 2 ^ 31 = search rules in
    let qy : mag q.Y < 2 ^ 31 = search rules in
    let qw : mag q.W < 2 ^ 31 = search rules in
    by_height
    (λ e. c.if-a-b.false (ap (of_z w64) (factors_are p.Y q.W py qw ∙ e ∙ sym (factors_are q.Y p.W qy pw))))
    (product_is p.Y q.W py qw)
    (product_is q.Y p.W qy pw)
