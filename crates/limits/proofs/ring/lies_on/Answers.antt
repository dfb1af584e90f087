-- The two numbers are equal where the value is 0, and are so small that both fit.
use Rattle.std.proofs.Common.{refl, sym, ◌∙◌}
use mir.Syntax.{w32}
use mir.Facts.{to_z-of_z}
use Rattle.whole.proofs.Expressions.{var}
use Rattle.whole.proofs.Ranges.{fits}
use Rattle.whole.proofs.Machine.{need, value}
use Rattle.limits.proofs.Limits.{numbers, sizes, scaled, bounds, on_limit}
use Rattle.limits.proofs.ring.lies_on.Goals as goal

pub overflow_mul-result : goal.overflow_mul-result
overflow_mul-result c =
    let a = c.args in
    need sizes (numbers a.l a.m.now a.i) (bounds a.l a.m.now a.i c.requires.small) scaled tt

pub returns : goal.returns
returns c =
    let l = c.args.l in
    let m = c.args.m.now in
    let i = c.args.i in
    let within = bounds l m i c.requires.small in
    let product = need sizes (numbers l m i) within scaled tt in
    on_limit l m i c.requires.small (fits w32 sizes (numbers l m i) within (var 0) tt) product refl
    (sym (to_z-of_z product) ∙ value sizes (numbers l m i) within scaled tt)
